-- The fields copied so far are those that the loop has passed.
use Rattle.std.proofs.Common.{◌≡◌, take}
use Rattle.gql_ast.proofs.member.FieldTrees.copy.Given as goal

abbrev pub invariant-fields : goal.invariant-fields
invariant-fields l = l.items.items ≡ take l.field-index l.field-items
