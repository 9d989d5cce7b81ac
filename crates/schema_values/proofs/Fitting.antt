-- Which objects fit, by what is kept of an input object.
use Rattle.std.proofs.Common.{◌≡◌, ◌<◌, ◌+◌, ℕ, suc, Bool, true, false, not, ◌&&◌, ◌||◌, ◌==◌, List, [], ◌∷◌, map, length, get_or, drop, Option, Some, None, option_map, is_some, bytes_eq, add-one, drop-cons, refl, sym, ap, ◌∙◌}
use Rattle.std.specs.Map.{keys_of}
use Rattle.std.specs.Option.{option_and_then}
use Rattle.schema_types.specs.gql_ast.Ty.{Ty}
use Rattle.schema_types.specs.gql_ast.TypeView.{ty_of}
use Rattle.schema_types.specs.gql_ast.declared.member.InputTree.{InputTree}
use Rattle.schema_types.specs.gql_plain.Order.{AreInOrder, has_text}
use Rattle.schema_types.specs.gql_plain.Shown.{tree_of, shown_members}
use Rattle.schema_types.specs.gql_plain.Tree.{Tree, Members, object, member, members_of}
use Rattle.schema_types.specs.gql_plain.declared.plain.Plain.{Plain}
use Rattle.schema_types.specs.schema_tables.Views.{InputDef}
use Rattle.schema_types.specs.Environments.{fits, members_fit, suits_as_object, gives_each_required, has_key}
use Rattle.schema_types.specs.schema_tables.Fits.{meaning_of, is_required, input_type, fields}
use Rattle.schema_types.specs.schema_tables.Types.{Text, Defs, base_of, inputs_of, input_def, input_named}
use Rattle.schema_types.proofs.schema_tables_laws.Counting.{count_gives, differ_sorted, gives_by}
use Rattle.schema_types.specs.schema_tables.Given.{must_be_given}
use Rattle.schema_types.specs.schema_tables.Required.{count_among, required_names}
use Rattle.schema_values.specs.Means.{gives_each}

-- ---- objects

gives_each-defs : (is : List InputTree) (ms : Members) → gives_each (map input_def is) ms ≡ gives_each_required is ms
gives_each-defs [] ms = refl
gives_each-defs (i ∷ is) ms = ap (λ b. (not (is_required i) || has_key i.name ms) && b) (gives_each-defs is ms)

object_is : (defs : Defs) (ms : Members) (t : Ty) (n : Text) (is : List InputTree) (inputs : List InputDef) → n ≡ base_of t → meaning_of defs n ≡ fields is → inputs ≡ map input_def is
    → fits defs (object ms) t ≡ (gives_each inputs ms && members_fit defs ms (fields is))
object_is defs ms t n is inputs name means kept =
    ap (λ m. suits_as_object ms m && members_fit defs ms m) (ap (meaning_of defs) (sym name) ∙ means)
    ∙ ap (λ b. b && members_fit defs ms (fields is)) (sym (ap (λ xs. gives_each xs ms) kept ∙ gives_each-defs is ms))

pub object_fits : (defs : Defs) (ms : Members) (t : Ty) (n : Text) (is : List InputTree) (inputs : List InputDef) (given fitting : Bool)
    → n ≡ base_of t → meaning_of defs n ≡ fields is → inputs ≡ map input_def is → given ≡ gives_each inputs ms → given ≡ true → fitting ≡ members_fit defs ms (fields is)
    → fitting ≡ fits defs (object ms) t
object_fits defs ms t n is inputs given fitting name means kept gives is_given fit =
    sym (object_is defs ms t n is inputs name means kept ∙ ap (λ b. b && members_fit defs ms (fields is)) (sym gives ∙ is_given) ∙ sym fit)

pub object_lacks : (defs : Defs) (ms : Members) (t : Ty) (n : Text) (is : List InputTree) (inputs : List InputDef) (given : Bool)
    → n ≡ base_of t → meaning_of defs n ≡ fields is → inputs ≡ map input_def is → given ≡ gives_each inputs ms → given ≡ false → given ≡ fits defs (object ms) t
object_lacks defs ms t n is inputs given name means kept gives lacks =
    lacks ∙ sym (object_is defs ms t n is inputs name means kept ∙ ap (λ b. b && members_fit defs ms (fields is)) (sym gives ∙ lacks))

-- ---- what has to be given

gives_each-by : (is : List InputDef) (ms : Members) → gives_by (λ n. has_key n ms) is ≡ gives_each is ms
gives_each-by [] ms = refl
gives_each-by (i ∷ is) ms = ap (λ b. (not (must_be_given i) || has_key i.name ms) && b) (gives_each-by is ms)

has_key-keys : (es : List (List ℕ × Plain)) (n : Text) → has_key n (members_of (shown_members es)) ≡ has_text (keys_of es) n
has_key-keys [] n = refl
has_key-keys (e ∷ es) n = ap (λ b. bytes_eq e.0 n || b) (has_key-keys es n)

-- the keys differ, so as many have to be given as are there
pub pairs_give : (is : List InputDef) (es : List (List ℕ × Plain)) (a b : ℕ) → AreInOrder (keys_of es) → a ≡ count_among (required_names is) (keys_of es) → b ≡ length (required_names is)
    → (a == b) ≡ gives_each is (members_of (shown_members es))
pairs_give is es a b ordered count all =
    (λ k. count k == all k) ∙ count_gives (λ n. has_key n (members_of (shown_members es))) is (keys_of es) (differ_sorted (keys_of es) ordered) (has_key-keys es)
    ∙ gives_each-by is (members_of (shown_members es))

-- ---- the next pair of an object

unknown_name : (r : Option InputTree) (l m : Bool) → None ≡ option_map input_def r → false ≡ (is_some r && l && m)
unknown_name None l m e = refl
unknown_name (Some i) l m e = cc

module _ (defs : Defs) (x : Tree) where
  unfit_value : (r : Option InputTree) (input : InputDef) (m : Bool) → Some input ≡ option_map input_def r → fits defs x (ty_of input.of) ≡ false
      → false ≡ (is_some r && fits defs x (input_type r) && m)
  unfit_value None input m e unfit = cc
  unfit_value (Some i) input m e unfit =
      let same : input ≡ input_def i = cc in
      sym (ap (λ b. b && m) (ap (λ y. fits defs x (ty_of y.of)) (sym same) ∙ unfit))

-- the pairs from the next one on
abbrev pub from : List (List ℕ × Plain) → ℕ → Members
from es at = members_of (shown_members (drop at es))

next_pair : (es : List (List ℕ × Plain)) (at : ℕ) (e : List ℕ × Plain) → at < length es → e ≡ get_or es at e → from es at ≡ member e.0 (tree_of e.1) (from es (at + 1))
next_pair es at e low is =
    ap (λ xs. members_of (shown_members xs)) (drop-cons es at e low ∙ ap (λ x. x ∷ drop (suc at) es) (sym is))
    ∙ ap (λ k. member e.0 (tree_of e.1) (from es k)) (sym (add-one at))

module _ (defs : Defs) (of : Text) (is : List InputTree) (kept : inputs_of defs of ≡ Some is)
    (es : List (List ℕ × Plain)) (at : ℕ) (e : List ℕ × Plain) (low : at < length es) (next : e ≡ get_or es at e) where
  named : option_map input_def (option_and_then (λ xs. input_named xs e.0) (inputs_of defs of)) ≡ option_map input_def (input_named is e.0)
  named = ap (λ r. option_map input_def (option_and_then (λ xs. input_named xs e.0) r)) kept

  pub pair_unknown : None ≡ option_map input_def (option_and_then (λ xs. input_named xs e.0) (inputs_of defs of)) → false ≡ members_fit defs (from es at) (fields is)
  pair_unknown none = unknown_name _ _ _ (none ∙ named) ∙ ap (λ ms. members_fit defs ms (fields is)) (sym (next_pair es at e low next))

  pub pair_unfit : (input : InputDef) → Some input ≡ option_map input_def (option_and_then (λ xs. input_named xs e.0) (inputs_of defs of))
      → fits defs (tree_of e.1) (ty_of input.of) ≡ false → false ≡ members_fit defs (from es at) (fields is)
  pair_unfit input some unfit =
      unfit_value defs (tree_of e.1) _ input _ (some ∙ named) unfit ∙ ap (λ ms. members_fit defs ms (fields is)) (sym (next_pair es at e low next))
