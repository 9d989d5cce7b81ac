use Rattle.std.proofs.Common.{arith}
use Rattle.std.proofs.lemmas.Grind.{common_steps}
use Rattle.gql_ast.proofs.Selecting.{sels_of-append}
use Rattle.gql_ast.proofs.selection.+copy.Goals as goal

pub Selections::copy-selections-preserved : goal.Selections::copy-selections-preserved
Selections::copy-selections-preserved t c = grind (arith, common_steps, sels_of-append)
