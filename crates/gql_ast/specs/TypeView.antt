-- The types that the trees stand for.
use Rattle.gql_ast.specs.declared.type_tree.TypeTree.{TypeTree}
use Rattle.gql_ast.specs.declared.type_tree.TypeTree.TheVariants as T
use Rattle.gql_ast.specs.Ty.{Ty, named, list, non_null}

abbrev pub ty_of : TypeTree → Ty
ty_of (T.Named n) = named n
ty_of (T.List t) = list t
ty_of (T.NonNull t) = non_null t
