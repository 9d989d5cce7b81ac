use Rattle.std.proofs.Common.{arith}
use Rattle.std.proofs.lemmas.Grind.{common_steps}
use Rattle.gql_ast.proofs.Selecting.{sels_of-end}
use Rattle.gql_ast.proofs.selection.Selections.is_empty.Goals as goal

pub returns : goal.returns
returns c = grind (arith, common_steps, sels_of-end)
