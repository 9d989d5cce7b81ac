-- The trees that values and types are kept as stand for these values and types.
use Rattle.std.proofs.Common.{◌≡◌, ℕ, List, [], ◌∷◌, refl, ap}
use Rattle.gql_ast.specs.Ty.{Ty}
use Rattle.gql_ast.specs.Ty as ty
use Rattle.gql_ast.specs.TypeView.{ty_of}
use Rattle.gql_ast.specs.Value.{Val, Vals, Members, variable, int, text, truth, null, enum, list, object, no_vals, val, no_members, member, vals_of, members_of}
use Rattle.gql_ast.specs.ValueView.{value_of}
use Rattle.gql_ast.specs.declared.type_tree.TypeTree.{TypeTree}
use Rattle.gql_ast.specs.declared.type_tree.TypeTree.TheVariants as T
use Rattle.gql_ast.specs.declared.value.ValueTree.{ValueTree}
use Rattle.gql_ast.specs.declared.value.ValueTree.TheVariants as V
use Rattle.gql_syntax.specs.Built.{type_tree, value_tree, items_of, pairs_of}

pub vals_of-items_of : (vs : Vals) → vals_of (items_of vs) ≡ vs
vals_of-items_of no_vals = refl
vals_of-items_of (val v vs) = ap (λ ws. val v ws) (vals_of-items_of vs)

pub members_of-pairs_of : (ms : Members) → members_of (pairs_of ms) ≡ ms
members_of-pairs_of no_members = refl
members_of-pairs_of (member n v ms) = ap (λ ks. member n v ks) (members_of-pairs_of ms)

pub value_of-value_tree : (v : Val) → value_of (value_tree v) ≡ v
value_of-value_tree (list vs) = ap (λ ws. list ws) (vals_of-items_of vs)
value_of-value_tree (object ms) = ap (λ ws. object ws) (members_of-pairs_of ms)
value_of-value_tree (variable n) = refl
value_of-value_tree (int n) = refl
value_of-value_tree (text t) = refl
value_of-value_tree (truth b) = refl
value_of-value_tree null = refl
value_of-value_tree (enum n) = refl

pub ty_of-type_tree : (t : Ty) → ty_of (type_tree t) ≡ t
ty_of-type_tree (ty.named n) = refl
ty_of-type_tree (ty.list t) = refl
ty_of-type_tree (ty.non_null t) = refl

-- ---- and the other way

pub items_of-vals_of : (vs : List Val) → items_of (vals_of vs) ≡ vs
items_of-vals_of [] = refl
items_of-vals_of (v ∷ vs) = ap (λ ws. v ∷ ws) (items_of-vals_of vs)

pub pairs_of-members_of : (ms : List (List ℕ × Val)) → pairs_of (members_of ms) ≡ ms
pairs_of-members_of [] = refl
pairs_of-members_of (m ∷ ms) = ap (λ ws. m ∷ ws) (pairs_of-members_of ms)

pub value_tree-value_of : (v : ValueTree) → value_tree (value_of v) ≡ v
value_tree-value_of (V.Variable n) = refl
value_tree-value_of (V.Int n) = refl
value_tree-value_of (V.Text t) = refl
value_tree-value_of (V.Bool b) = refl
value_tree-value_of V.Null = refl
value_tree-value_of (V.Enum n) = refl
value_tree-value_of (V.List vs) = ap (λ ws. V.List ws) (items_of-vals_of vs)
value_tree-value_of (V.Object ms) = ap (λ ws. V.Object ws) (pairs_of-members_of ms)

pub type_tree-ty_of : (t : TypeTree) → type_tree (ty_of t) ≡ t
type_tree-ty_of (T.Named n) = refl
type_tree-ty_of (T.List t) = refl
type_tree-ty_of (T.NonNull t) = refl
