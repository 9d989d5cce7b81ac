-- The trees that values and types are kept as.
use Rattle.std.specs.Prelude.{ℕ, List, [], ◌∷◌}
use Rattle.gql_ast.specs.Ty.{Ty}
use Rattle.gql_ast.specs.Ty as ty
use Rattle.gql_ast.specs.Value.{Val, Vals, Members, variable, int, text, truth, null, enum, list, object, no_vals, val, no_members, member}
use Rattle.gql_ast.specs.declared.type_tree.TypeTree.{TypeTree}
use Rattle.gql_ast.specs.declared.type_tree.TypeTree.TheVariants as T
use Rattle.gql_ast.specs.declared.value.ValueTree.{ValueTree}
use Rattle.gql_ast.specs.declared.value.ValueTree.TheVariants as V

abbrev pub type_tree : Ty → TypeTree
type_tree (ty.named n) = T.Named n
type_tree (ty.list t) = T.List t
type_tree (ty.non_null t) = T.NonNull t

abbrev pub items_of : Vals → List Val
items_of no_vals = []
items_of (val v vs) = v ∷ items_of vs

abbrev pub pairs_of : Members → List (List ℕ × Val)
pairs_of no_members = []
pairs_of (member n v ms) = (n, v) ∷ pairs_of ms

abbrev pub value_tree : Val → ValueTree
value_tree (variable n) = V.Variable n
value_tree (int n) = V.Int n
value_tree (text t) = V.Text t
value_tree (truth b) = V.Bool b
value_tree null = V.Null
value_tree (enum n) = V.Enum n
value_tree (list vs) = V.List (items_of vs)
value_tree (object ms) = V.Object (pairs_of ms)
