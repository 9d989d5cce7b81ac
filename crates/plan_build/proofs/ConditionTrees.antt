-- The tree of a value, and the value of a tree.
use Rattle.std.proofs.Common.{◌≡◌, List, [], ◌∷◌, refl, ap}
use Rattle.plan_ir.specs.gql_ast.Value as v
use Rattle.plan_ir.specs.gql_ast.Value.{Val, Vals, vals_of, members_of}
use Rattle.plan_ir.specs.gql_ast.ValueView.{value_of}
use Rattle.plan_ir.specs.gql_ast.declared.value.ValueTree.{ValueTree}
use Rattle.plan_ir.specs.gql_ast.declared.value.ValueTree.TheVariants as V
use Rattle.plan_ir.specs.schema_tables.Types.{Text}
use Rattle.plan_build.specs.Conditions.{list_of, pairs_of, tree_of}

listed : (xs : Vals) → vals_of (list_of xs) ≡ xs
listed v.no_vals = refl
listed (v.val x xs) = ap (λ (ys : Vals). v.val x ys) (listed xs)

paired : (ms : v.Members) → members_of (pairs_of ms) ≡ ms
paired v.no_members = refl
paired (v.member n x ms) = ap (λ (ns : v.Members). v.member n x ns) (paired ms)

pub value_of_tree : (x : Val) → value_of (tree_of x) ≡ x
value_of_tree (v.variable n) = refl
value_of_tree (v.int n) = refl
value_of_tree (v.text s) = refl
value_of_tree (v.truth b) = refl
value_of_tree v.null = refl
value_of_tree (v.enum n) = refl
value_of_tree (v.list xs) = ap v.list (listed xs)
value_of_tree (v.object ms) = ap v.object (paired ms)

unlisted : (xs : List Val) → list_of (vals_of xs) ≡ xs
unlisted [] = refl
unlisted (x ∷ xs) = ap (λ (ys : List Val). x ∷ ys) (unlisted xs)

unpaired : (ms : List (Text × Val)) → pairs_of (members_of ms) ≡ ms
unpaired [] = refl
unpaired (m ∷ ms) = ap (λ (ns : List (Text × Val)). m ∷ ns) (unpaired ms)

pub tree_of_value : (x : ValueTree) → tree_of (value_of x) ≡ x
tree_of_value (V.Variable n) = refl
tree_of_value (V.Int n) = refl
tree_of_value (V.Text s) = refl
tree_of_value (V.Bool b) = refl
tree_of_value V.Null = refl
tree_of_value (V.Enum n) = refl
tree_of_value (V.List xs) = ap V.List (unlisted xs)
tree_of_value (V.Object ms) = ap V.Object (unpaired ms)
