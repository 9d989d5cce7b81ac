-- What is copied so far is what the loop has passed.
use Rattle.std.proofs.Common.{◌≡◌, take}
use Rattle.plan_ir.specs.NodesView.{nodes_of}
use Rattle.plan_ir.proofs.node.+copy.Given as goal

abbrev pub invariant-Nodes::copy-nodes : goal.invariant-Nodes::copy-nodes
invariant-Nodes::copy-nodes l = nodes_of l.items.items ≡ nodes_of (take l.node-index l.node-items)
