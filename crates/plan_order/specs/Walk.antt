-- The walk of a plan that is in order: members are told one after another, those of an object with pointers around what it tells beside its fields.
use Rattle.std.specs.Prelude.{ℕ, zero, suc, Bool, true, false, not, cond, codes, List, [], ◌∷◌, ◌++◌, Option, Some, None}
use Rattle.std.specs.Cmp.Lexicographic.{slice_cmp}
use Rattle.std.specs.Ordering.{is_lt, nat_cmp}
use Rattle.plan_ir.specs.gql_plain.Order.{has_text}
use Rattle.plan_ir.specs.gql_plain.Tree.{Tree, null}
use Rattle.plan_ir.specs.Reader.{Reader}
use Rattle.plan_ir.specs.ReaderMeaning.{ReaderPart, collect_reading}
use Rattle.plan_order.specs.Responses.{fragments}
use Rattle.plan_ir.specs.schema_types.Environments.{Values}
use Rattle.plan_ir.specs.store_model.Items.{Asked, Group, Item, asked, pointed}
use Rattle.plan_ir.specs.store_model.Walks.{Fields, Found, Next, Shown, Slots, Standing, Trace, absent, gone, lives, field_of, group_at, join_traces, mark_members, pointer_at, standing_of, still, stood_lost, trace_at, where_possible}
use Rattle.plan_ir.specs.store_record.Keys.{Text}

-- a field alone
abbrev pub alone : Asked ReaderPart → Group ReaderPart
alone a = record { first = a; others = [] }

-- a value under its key; a missing one is left out
abbrev pub found_member : Text → Option Tree → List (Text × Tree)
found_member key None = []
found_member key (Some t) = (key, t) ∷ []

-- ---- fields

-- which response keys are taken: all, those below `__fragments`, or the others
pub data Span : Type 0 where
  whole : Span
  before : Span
  behind : Span

abbrev pub is_below : Text → Bool
is_below key = is_lt (slice_cmp nat_cmp key (codes "__fragments"))

abbrev pub is_taken : Span → Text → Bool
is_taken whole key = true
is_taken before key = is_below key
is_taken behind key = not (is_below key)

-- a field, where it is taken
abbrev pub field_shown : Bool → Next ReaderPart → Text → Fields → Asked ReaderPart → List (Text × Tree)
field_shown false next T fields a = []
field_shown true next T fields a = found_member a.ask.response (group_at next T fields (alone a)).0

abbrev pub field_met : Bool → Next ReaderPart → Text → Fields → Asked ReaderPart → Trace
field_met false next T fields a = still
field_met true next T fields a = (group_at next T fields (alone a)).1

-- the fields among items, as far as they are taken
abbrev pub fields_shown : Span → Next ReaderPart → Text → Fields → List (Item ReaderPart) → List (Text × Tree)
fields_shown span next T fields [] = []
fields_shown span next T fields (asked a ∷ items) = field_shown (is_taken span a.ask.response) next T fields a ++ fields_shown span next T fields items
fields_shown span next T fields (pointed p ∷ items) = fields_shown span next T fields items

abbrev pub fields_met : Span → Next ReaderPart → Text → Fields → List (Item ReaderPart) → Trace
fields_met span next T fields [] = still
fields_met span next T fields (asked a ∷ items) = join_traces (field_met (is_taken span a.ask.response) next T fields a) (fields_met span next T fields items)
fields_met span next T fields (pointed p ∷ items) = fields_met span next T fields items

-- ---- pointers

abbrev pub pointers_shown : Next ReaderPart → Text → Text → List (Item ReaderPart) → List (Text × Tree)
pointers_shown next T id [] = []
pointers_shown next T id (asked a ∷ items) = pointers_shown next T id items
pointers_shown next T id (pointed p ∷ items) = (p.fragment, (pointer_at next T id p p.inline).0) ∷ pointers_shown next T id items

abbrev pub pointers_met : Next ReaderPart → Text → Text → List (Item ReaderPart) → Trace
pointers_met next T id [] = still
pointers_met next T id (asked a ∷ items) = pointers_met next T id items
pointers_met next T id (pointed p ∷ items) = join_traces (pointer_at next T id p p.inline).1 (pointers_met next T id items)

-- ---- records

abbrev pub is_none : List Text → Bool
is_none [] = true
is_none (t ∷ ts) = false

-- fields alone, and fields around pointers
abbrev pub fields_alone : Next ReaderPart → Text → Fields → List (Item ReaderPart) → Shown × Trace
fields_alone next T fields items = (fields_shown whole next T fields items, fields_met whole next T fields items)

abbrev pub fields_around : (owner : Text) → Next ReaderPart → Text → Text → Fields → List (Item ReaderPart) → Shown × Trace
fields_around owner next T id fields items = (
  fields_shown before next T fields items ++ (mark_members owner id (pointers_shown next T id items) ++ fields_shown behind next T fields items),
  join_traces (fields_met before next T fields items) (join_traces (pointers_met next T id items) (fields_met behind next T fields items)),
)

-- the members of a live record of an object type
abbrev pub object_in_order : (owner : Text) → Next ReaderPart → Text → Values → Reader → Text → Fields → Shown × Trace
object_in_order owner next T env steps id fields =
    cond (is_none (fragments steps)) (fields_alone next T fields (collect_reading env T steps)) (fields_around owner next T id fields (collect_reading env T steps))

abbrev pub stand_in_order : (typed : Text → Text) → Text → Next ReaderPart → List Text → Values → Reader → Text → Standing → Fields → Found
stand_in_order typed owner next types env steps id absent fields = (None, stood_lost id)
stand_in_order typed owner next types env steps id gone fields = (Some null, trace_at id)
stand_in_order typed owner next types env steps id (lives name) fields =
    where_possible (has_text types (typed name)) id (object_in_order owner next (typed name) env steps id fields)

-- what stands below a field or a pointer is one part
abbrev pub first_part : (Values → List Text → Reader → Text → Found) → Next ReaderPart
first_part next types [] id = (None, stood_lost id)
first_part next types (p ∷ ps) id = next p.environment types p.steps id

-- the read at an id, at most n records one below another
abbrev pub ordered_at : (typed : Text → Text) → Text → Slots → Values → ℕ → List Text → Reader → Text → Found
ordered_at typed owner m env zero types steps id = (None, stood_lost id)
ordered_at typed owner m env (suc n) types steps id =
    stand_in_order typed owner (first_part (λ values. ordered_at typed owner m values n)) types env steps id (standing_of (m id)) (field_of (m id))
