use Rattle.std.proofs.Common.{arith}
use Rattle.std.proofs.lemmas.Grind.{common_steps}
use Rattle.plan_ir.proofs.NodeLaws.{nodes_of-append}
use Rattle.plan_ir.proofs.node.+copy.Goals as goal

pub Nodes::copy-nodes-preserved : goal.Nodes::copy-nodes-preserved
Nodes::copy-nodes-preserved t c = grind (arith, common_steps, nodes_of-append)
