use Rattle.std.proofs.Common.{arith}
use Rattle.std.proofs.lemmas.Grind.{common_steps}
use Rattle.gql_ast.proofs.Selecting.{number_of-sels_of}
use Rattle.gql_ast.proofs.selection.Selections.len.Goals as goal

pub returns : goal.returns
returns c = grind (arith, common_steps, number_of-sels_of)
