use Rattle.std.proofs.Common.{arith}
use Rattle.std.proofs.lemmas.Grind.{common_steps}
use Rattle.gql_ast.proofs.Selecting.{sels_of-append}
use Rattle.gql_ast.proofs.selection.Selections.push.Goals as goal

pub returns-clause-ok : goal.returns-clause-ok
returns-clause-ok c = grind (arith, common_steps, sels_of-append)
