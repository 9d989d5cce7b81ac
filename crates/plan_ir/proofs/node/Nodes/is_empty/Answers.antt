use Rattle.std.proofs.Common.{arith}
use Rattle.std.proofs.lemmas.Grind.{common_steps}
use Rattle.plan_ir.proofs.NodeLaws.{nodes_of-end}
use Rattle.plan_ir.proofs.node.Nodes.is_empty.Goals as goal

pub returns : goal.returns
returns c = grind (arith, common_steps, nodes_of-end)
