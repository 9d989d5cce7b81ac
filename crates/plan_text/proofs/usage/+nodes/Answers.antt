-- What is noted, and what is left, is the whole.
use Rattle.std.proofs.Common.{List}
use Rattle.plan_ir.specs.NodesView.{nodes_of}
use Rattle.plan_ir.specs.OperationText.{nodes_use}
use Rattle.plan_ir.specs.declared.node.Node.{Node}
use Rattle.plan_text.proofs.Using.{loop_noted, uses_first}
use Rattle.plan_text.proofs.usage.+nodes.Goals as goal
use Rattle.plan_text.specs.NodeTexts.{node_uses}
use Rattle.plan_text.specs.UsedNames.{has_name}

pub note_nodes-items-preserved : goal.note_nodes-items-preserved
note_nodes-items-preserved t c = λ n.
    loop_noted (λ (xs : List Node). nodes_use n (nodes_of xs)) (node_uses n) (uses_first n)
    c.deref-node-items.result.now c.items.node-index c.node-item.result c.items-test.true c.node-item.is
    (has_name c.items.names n) (has_name c.note_node.new.names n) _ (c.in_ok-note_node.ensures n) (c.items.invariant n)
