-- The values copied so far are those that the loop has passed.
use Rattle.std.proofs.Common.{◌≡◌, take}
use Rattle.gql_ast.proofs.member.EnumValues.copy.Given as goal

abbrev pub invariant-values : goal.invariant-values
invariant-values l = l.items.items ≡ take l.value-index l.value-items
