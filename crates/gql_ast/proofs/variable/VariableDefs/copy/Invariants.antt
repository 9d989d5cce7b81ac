-- The variables copied so far are those that the loop has passed.
use Rattle.std.proofs.Common.{◌≡◌, take}
use Rattle.gql_ast.proofs.variable.VariableDefs.copy.Given as goal

abbrev pub invariant-variables : goal.invariant-variables
invariant-variables l = l.items.items ≡ take l.variable-index l.variable-items
