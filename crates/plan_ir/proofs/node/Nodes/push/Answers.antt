use Rattle.std.proofs.Common.{arith}
use Rattle.std.proofs.lemmas.Grind.{common_steps}
use Rattle.plan_ir.proofs.NodeLaws.{nodes_of-append}
use Rattle.plan_ir.proofs.node.Nodes.push.Goals as goal

pub returns-clause-ok : goal.returns-clause-ok
returns-clause-ok c = grind (arith, common_steps, nodes_of-append)
