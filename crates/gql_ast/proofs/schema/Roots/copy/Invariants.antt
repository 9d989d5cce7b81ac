-- The roots copied so far are those that the loop has passed.
use Rattle.std.proofs.Common.{◌≡◌, take}
use Rattle.gql_ast.proofs.schema.Roots.copy.Given as goal

abbrev pub invariant-roots : goal.invariant-roots
invariant-roots l = l.items.items ≡ take l.root-index l.root-items
