-- Which objects fit, by what is kept of an input object.
use Rattle.std.proofs.Common.{◌≡◌, ℕ, suc, ◌<◌, ◌+◌, ◌-◌, Bool, true, false, true≢false, not, ◌&&◌, ◌||◌, List, [], ◌∷◌, map, length, get_or, take, drop, Option, Some, None, option_map, is_some, add-one, drop-cons, length-drop, arith, refl, sym, ap, ◌∙◌}
use Rattle.std.proofs.lemmas.List.{take_all}
use Rattle.gql_ast.specs.Ty.{Ty}
use Rattle.gql_ast.specs.TypeView.{ty_of}
use Rattle.gql_ast.specs.Value.{Val, Members, object, member, members_of}
use Rattle.gql_ast.specs.ValueView.{value_of, argument_of}
use Rattle.gql_ast.specs.declared.member.InputTree.{InputTree}
use Rattle.gql_ast.specs.declared.value.Argument.{Argument}
use Rattle.schema_tables.specs.Views.{InputDef}
use Rattle.schema_tables.specs.Fits.{literal_fits, members_fit, meaning_of, takes_object, gives_required, is_required, has_member, input_type, fields}
use Rattle.schema_tables.specs.Given.{gives_each}
use Rattle.schema_tables.specs.Members.{input_among}
use Rattle.schema_tables.specs.Types.{Text, Defs, base_of, input_def, input_named}
use Rattle.gql_ast.proofs.gql_plain_laws.Booleans.{and_false}
use Rattle.gql_graph.specs.gql_plain.Order.{has_text}
use Rattle.schema_tables.proofs.Counting.{has_member-names, stands_once}
use Rattle.schema_tables.proofs.Named.{input_among-defs}
use Rattle.schema_tables.specs.Required.{all_differ, member_names}

gives_each-defs : (is : List InputTree) (ms : Members) → gives_each (map input_def is) ms ≡ gives_required is ms
gives_each-defs [] ms = refl
gives_each-defs (i ∷ is) ms = ap (λ b. (not (is_required i) || has_member i.name ms) && b) (gives_each-defs is ms)

object_is : (defs : Defs) (ms : Members) (t : Ty) (n : Text) (is : List InputTree) (inputs : List InputDef) → n ≡ base_of t → meaning_of defs n ≡ fields is → inputs ≡ map input_def is
    → literal_fits defs (object ms) t ≡ (gives_each inputs ms && members_fit defs ms (fields is))
object_is defs ms t n is inputs name meaning kept =
    ap (λ m. takes_object ms m && members_fit defs ms m) (ap (meaning_of defs) (sym name) ∙ meaning)
    ∙ ap (λ b. b && members_fit defs ms (fields is)) (sym (ap (λ xs. gives_each xs ms) kept ∙ gives_each-defs is ms))

-- an object fits where its names differ, each input that has to be given is there, and each value fits
pub object_fits : (defs : Defs) (ms : Members) (t : Ty) (n : Text) (is : List InputTree) (inputs : List InputDef) (fitting : Bool)
    → n ≡ base_of t → meaning_of defs n ≡ fields is → inputs ≡ map input_def is → gives_each inputs ms ≡ true → fitting ≡ members_fit defs ms (fields is)
    → fitting ≡ literal_fits defs (object ms) t
object_fits defs ms t n is inputs fitting name meaning kept gives fit =
    sym (object_is defs ms t n is inputs name meaning kept ∙ ap (λ b. b && members_fit defs ms (fields is)) gives ∙ sym fit)

-- no object fits where a name stands twice
repeated_unfit : (defs : Defs) (is : List InputTree) (xs : List (Text × Val)) → all_differ (member_names xs) ≡ false → members_fit defs (members_of xs) (fields is) ≡ false
repeated_unfit defs is [] e = absurd (true≢false e)
repeated_unfit defs is (x ∷ xs) e = on (repeated_unfit defs is xs) (has_text (member_names xs) x.0) refl e
  where
    on : (all_differ (member_names xs) ≡ false → members_fit defs (members_of xs) (fields is) ≡ false) → (b : Bool) → has_text (member_names xs) x.0 ≡ b
        → (not b && all_differ (member_names xs)) ≡ false
        → (not (has_member x.0 (members_of xs)) && is_some (input_named is x.0) && literal_fits defs x.1 (input_type (input_named is x.0)) && members_fit defs (members_of xs) (fields is)) ≡ false
    on rest true h e =
        ap (λ b. not b && is_some (input_named is x.0) && literal_fits defs x.1 (input_type (input_named is x.0)) && members_fit defs (members_of xs) (fields is)) (has_member-names xs x.0 ∙ h)
    on rest false h e =
        ap (λ b. not (has_member x.0 (members_of xs)) && is_some (input_named is x.0) && literal_fits defs x.1 (input_type (input_named is x.0)) && b) (rest e)
        ∙ and_false (not (has_member x.0 (members_of xs)) && is_some (input_named is x.0) && literal_fits defs x.1 (input_type (input_named is x.0)))

neither : (d g m named : Bool) → named ≡ (d && g) → named ≡ false → (d ≡ false → m ≡ false) → (g && m) ≡ false
neither true g m named e none h = ap (λ b. b && m) (sym e ∙ none)
neither false g m named e none h = ap (λ b. g && b) (h refl) ∙ and_false g

pub object_lacks : (defs : Defs) (xs : List (Text × Val)) (t : Ty) (n : Text) (is : List InputTree) (inputs : List InputDef) (named : Bool)
    → n ≡ base_of t → meaning_of defs n ≡ fields is → inputs ≡ map input_def is → named ≡ (all_differ (member_names xs) && gives_each inputs (members_of xs)) → named ≡ false
    → false ≡ literal_fits defs (object (members_of xs)) t
object_lacks defs xs t n is inputs named name meaning kept e none =
    sym (object_is defs (members_of xs) t n is inputs name meaning kept
    ∙ neither (all_differ (member_names xs)) (gives_each inputs (members_of xs)) (members_fit defs (members_of xs) (fields is)) named e none (repeated_unfit defs is xs))

-- ---- the next field of an object

unknown_name : (r : Option InputTree) (a l m : Bool) → None ≡ option_map input_def r → false ≡ (not a && is_some r && l && m)
unknown_name None true l m e = refl
unknown_name None false l m e = refl
unknown_name (Some i) a l m e = cc

module _ (defs : Defs) (v : Val) where
  unfit_value : (r : Option InputTree) (input : InputDef) (a m : Bool) → Some input ≡ option_map input_def r → literal_fits defs v (ty_of input.of) ≡ false
      → false ≡ (not a && is_some r && literal_fits defs v (input_type r) && m)
  unfit_value None input a m e unfit = cc
  unfit_value (Some i) input true m e unfit = refl
  unfit_value (Some i) input false m e unfit =
      let same : input ≡ input_def i = cc in
      sym (ap (λ b. b && m) (ap (λ x. literal_fits defs v (ty_of x.of)) (sym same) ∙ unfit))

  good_value : (r : Option InputTree) (input : InputDef) (a m : Bool) → Some input ≡ option_map input_def r → literal_fits defs v (ty_of input.of) ≡ true → a ≡ false
      → (not a && is_some r && literal_fits defs v (input_type r) && m) ≡ m
  good_value None input a m e fit once = cc
  good_value (Some i) input true m e fit once = cc
  good_value (Some i) input false m e fit once =
      let same : input ≡ input_def i = cc in
      ap (λ b. b && m) (ap (λ x. literal_fits defs v (ty_of x.of)) (sym same) ∙ fit)

-- the fields from the next one on
abbrev pub from : List Argument → ℕ → Members
from items at = members_of (map argument_of (drop at items))

next_field : (items : List Argument) (at : ℕ) (f : Argument) → at < length items → f ≡ get_or items at f → from items at ≡ member f.name (value_of f.value) (from items (at + 1))
next_field items at f low is =
    ap (λ xs. members_of (map argument_of xs)) (drop-cons items at f low ∙ ap (λ x. x ∷ drop (suc at) items) (sym is))
    ∙ ap (λ k. member f.name (value_of f.value) (from items k)) (sym (add-one at))

module _ (defs : Defs) (inputs : List InputDef) (is : List InputTree) (same : inputs ≡ map input_def is)
    (items : List Argument) (at : ℕ) (f : Argument) (low : at < length items) (next : f ≡ get_or items at f) where
  named : input_among inputs f.name ≡ option_map input_def (input_named is f.name)
  named = ap (λ xs. input_among xs f.name) same ∙ input_among-defs is f.name

  pub field_unknown : None ≡ input_among inputs f.name → false ≡ members_fit defs (from items at) (fields is)
  field_unknown none = unknown_name _ _ _ _ (none ∙ named) ∙ ap (λ ms. members_fit defs ms (fields is)) (sym (next_field items at f low next))

  pub field_unfit : (input : InputDef) → Some input ≡ input_among inputs f.name → literal_fits defs (value_of f.value) (ty_of input.of) ≡ false → false ≡ members_fit defs (from items at) (fields is)
  field_unfit input some unfit =
      unfit_value defs (value_of f.value) _ input _ _ (some ∙ named) unfit ∙ ap (λ ms. members_fit defs ms (fields is)) (sym (next_field items at f low next))

  pub field_fits : (input : InputDef) → Some input ≡ input_among inputs f.name → literal_fits defs (value_of f.value) (ty_of input.of) ≡ true
      → all_differ (member_names (map argument_of items)) ≡ true → members_fit defs (from items at) (fields is) ≡ members_fit defs (from items (at + 1)) (fields is)
  field_fits input some fit differ =
      ap (λ ms. members_fit defs ms (fields is)) (next_field items at f low next) ∙ good_value defs (value_of f.value) _ input _ _ (some ∙ named) fit (stands_once items at f low next differ)
