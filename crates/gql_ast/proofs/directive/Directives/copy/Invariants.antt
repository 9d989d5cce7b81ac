-- The directives copied so far are those that the loop has passed.
use Rattle.std.proofs.Common.{◌≡◌, take}
use Rattle.gql_ast.proofs.directive.Directives.copy.Given as goal

abbrev pub invariant-directives : goal.invariant-directives
invariant-directives l = l.items.items ≡ take l.directive-index l.directive-items
