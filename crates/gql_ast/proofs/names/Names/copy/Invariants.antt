-- The names copied so far are those that the loop has passed.
use Rattle.std.proofs.Common.{◌≡◌, take}
use Rattle.gql_ast.proofs.names.Names.copy.Given as goal

abbrev pub invariant-names : goal.invariant-names
invariant-names l = l.items.items ≡ take l.name-index l.name-items
