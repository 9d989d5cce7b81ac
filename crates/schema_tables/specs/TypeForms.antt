-- Forms of types.
use Rattle.std.specs.Prelude.{Bool, true, false}
use Rattle.gql_ast.specs.Ty.{Ty}
use Rattle.gql_ast.specs.Ty as ty

abbrev pub is_non_null : Ty → Bool
is_non_null (ty.non_null t) = true
is_non_null t = false
