-- What a step shows and meets by the items that it gives.
use Rattle.std.proofs.Common.{◌≡◌, Bool, true, false, codes, List, [], ◌∷◌, ◌++◌, length, Option, option_map, append-nil, refl, sym, ap, ◌∙◌}
use Rattle.plan_ir.specs.gql_ast.Value.{Val}
use Rattle.plan_ir.specs.gql_plain.declared.ids.Conn.{Conn}
use Rattle.json.specs.Token as token
use Rattle.json.specs.Token.{Token}
use Rattle.plan_ir.specs.NormalMeaning.{below_step, connection_of_step, object_form}
use Rattle.plan_ir.specs.Reader.{Reader, done, object}
use Rattle.plan_ir.specs.ReaderMeaning.{ReaderPart, collect_reading}
use Rattle.plan_order.specs.Walk.{Span, field_met, field_shown, fields_met, fields_shown, is_taken, pointers_met, pointers_shown}
use Rattle.plan_ir.specs.schema_types.Environments.{Values, arguments_in_environment}
use Rattle.plan_ir.specs.store_model.Items.{Asked, Form, Item, Pointer, asked, pointed}
use Rattle.plan_ir.specs.store_model.Walks.{Fields, Next, Trace, join_traces, mark_members, pointer_at, still}
use Rattle.store_show.proofs.StoodSteps.{stood_joined, stood_still}
use Rattle.store_read.specs.Meeting.{Meeting}
use Rattle.store_show.specs.Showing.{has_pointed, identity, pairs_tokens}
use Rattle.store_show.proofs.ShowTokens.{marks_written}
use Rattle.store_show.specs.Stood.{stood_onto}
use Rattle.plan_ir.specs.store_record.Keys.{Text}

-- nothing behind a trace
joined_still : (m : Meeting) (t : Trace) → stood_onto m t ≡ stood_onto m (join_traces t still)
joined_still m t = sym (stood_still (stood_onto m t)) ∙ stood_joined m t still

-- ---- nothing

pub nothing_written : (a x : List Token) → [] ≡ x → a ≡ a ++ x
nothing_written a x is = sym (append-nil a) ∙ ap (λ ts. a ++ ts) is

pub nothing_met : (m : Meeting) (t : Trace) → still ≡ t → m ≡ stood_onto m t
nothing_met m t is = sym (stood_still m) ∙ ap (stood_onto m) is

-- ---- the field of a step of objects

pub object_items : (env : Values) (T r n : Text) (xs : List (Text × Val)) (m : Bool) (ts is : List Text) (o : Bool) (c : Option Conn) (child : Reader) (p : ReaderPart) (conn : Option Conn) (form : Form)
    → p ≡ record { environment = env; steps = child } → conn ≡ c → form ≡ object_form m (below_step ts is o)
    → asked (record { ask = record { response = r; name = n; arguments = arguments_in_environment p.environment xs; connection = option_map connection_of_step conn; form = form }; part = p }) ∷ []
    ≡ collect_reading env T (object r n xs m ts is o c child done)
object_items env T r n xs m ts is o c child p conn form part connected formed =
    λ i. asked (record {
      ask = record { response = r; name = n; arguments = arguments_in_environment (part i).environment xs; connection = option_map connection_of_step (connected i); form = formed i };
      part = part i;
    }) ∷ []

-- ---- fields

module _ (span : Span) (next : Next ReaderPart) (T : Text) (fields : Fields) (items : List (Item ReaderPart)) where
  module _ (a : Asked ReaderPart) (is : asked a ∷ [] ≡ items) where
    abbrev taken : Bool
    taken = is_taken span a.ask.response

    pub field_tokens : pairs_tokens (field_shown taken next T fields a) ≡ pairs_tokens (fields_shown span next T fields items)
    field_tokens = ap pairs_tokens (sym (append-nil (field_shown taken next T fields a))) ∙ ap (λ xs. pairs_tokens (fields_shown span next T fields xs)) is

    pub field_trace : (m : Meeting) → stood_onto m (field_met taken next T fields a) ≡ stood_onto m (fields_met span next T fields items)
    field_trace m = joined_still m (field_met taken next T fields a) ∙ ap (λ xs. stood_onto m (fields_met span next T fields xs)) is

    pub field_stood : length (field_met taken next T fields a).seen ≡ length (fields_met span next T fields items).seen
    field_stood = ap length (sym (append-nil (field_met taken next T fields a).seen)) ∙ ap (λ xs. length (fields_met span next T fields xs).seen) is

-- ---- pointers

module _ (next : Next ReaderPart) (T id : Text) (items : List (Item ReaderPart)) where
  module _ (p : Pointer ReaderPart) (is : pointed p ∷ [] ≡ items) where
    pub pointer_tokens : pairs_tokens ((p.fragment, (pointer_at next T id p p.inline).0) ∷ []) ≡ pairs_tokens (pointers_shown next T id items)
    pointer_tokens = ap (λ xs. pairs_tokens (pointers_shown next T id xs)) is

    pub pointer_trace : (m : Meeting) → stood_onto m (pointer_at next T id p p.inline).1 ≡ stood_onto m (pointers_met next T id items)
    pointer_trace m = joined_still m (pointer_at next T id p p.inline).1 ∙ ap (λ xs. stood_onto m (pointers_met next T id xs)) is

    pub pointer_stood : length (pointer_at next T id p p.inline).1.seen ≡ length (pointers_met next T id items).seen
    pointer_stood = ap length (sym (append-nil (pointer_at next T id p p.inline).1.seen)) ∙ ap (λ xs. length (pointers_met next T id xs).seen) is

module _ (next : Next ReaderPart) (T id : Text) where
  -- where there is none
  pub none_shown : (items : List (Item ReaderPart)) → has_pointed items ≡ false → [] ≡ pointers_shown next T id items
  none_shown [] none = refl
  none_shown (asked a ∷ items) none = none_shown items none
  none_shown (pointed p ∷ items) none = cc

  pub none_met : (items : List (Item ReaderPart)) → has_pointed items ≡ false → still ≡ pointers_met next T id items
  none_met [] none = refl
  none_met (asked a ∷ items) none = none_met items none
  none_met (pointed p ∷ items) none = cc

-- what is written of the pointers of items among which there is one
module _ (owner id : Text) (a b c d e f : List Token) (next : Next ReaderPart) (T : Text) where
  pub marks_of : (items : List (Item ReaderPart)) → has_pointed items ≡ true → b ≡ a ++ token.key (codes "__fragments") ∷ [] → c ≡ b ++ token.begin_object ∷ []
      → d ≡ c ++ pairs_tokens (pointers_shown next T id items) → e ≡ d ++ token.end_object ∷ [] → f ≡ e ++ identity owner id → f ≡ a ++ pairs_tokens (mark_members owner id (pointers_shown next T id items))
  marks_of [] there = cc
  marks_of (asked x ∷ items) there = marks_of items there
  marks_of (pointed p ∷ items) there = marks_written owner id a b c d e f (p.fragment, (pointer_at next T id p p.inline).0) (pointers_shown next T id items)
