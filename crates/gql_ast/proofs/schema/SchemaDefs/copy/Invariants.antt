-- The definitions copied so far are those that the loop has passed.
use Rattle.std.proofs.Common.{◌≡◌, take}
use Rattle.gql_ast.proofs.schema.SchemaDefs.copy.Given as goal

abbrev pub invariant-definitions : goal.invariant-definitions
invariant-definitions l = l.items.items ≡ take l.definition-index l.definition-items
