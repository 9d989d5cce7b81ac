-- The inputs copied so far are those that the loop has passed.
use Rattle.std.proofs.Common.{◌≡◌, take}
use Rattle.gql_ast.proofs.member.InputTrees.copy.Given as goal

abbrev pub invariant-inputs : goal.invariant-inputs
invariant-inputs l = l.items.items ≡ take l.input-index l.input-items
