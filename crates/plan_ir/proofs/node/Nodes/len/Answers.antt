use Rattle.std.proofs.Common.{arith}
use Rattle.std.proofs.lemmas.Grind.{common_steps}
use Rattle.plan_ir.proofs.NodeLaws.{number_of-nodes_of}
use Rattle.plan_ir.proofs.node.Nodes.len.Goals as goal

pub returns : goal.returns
returns c = grind (arith, common_steps, number_of-nodes_of)
