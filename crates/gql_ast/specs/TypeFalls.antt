-- What a type holds is less deep than it.
use Rattle.std.specs.Prelude.{◌≤◌, max}
use Rattle.std.proofs.Common.{arith}
use Rattle.gql_ast.specs.declared.type_tree.TypeTree.{TypeTree}
use Rattle.gql_ast.specs.declared.type_tree.TypeTree.TheVariants as T
use Rattle.gql_ast.specs.declared.type_tree.TypeBox.TheDeep.{deep-TypeTree}
use Rattle.gql_ast.specs.Ty.{ty_depth}
use Rattle.gql_ast.specs.TypeView.{ty_of}

pub type_falls : (t : TypeTree) → max (deep-TypeTree t) 0 ≤ ty_depth (ty_of t)
type_falls (T.Named n) = omega arith
type_falls (T.List t) = omega arith
type_falls (T.NonNull t) = omega arith
