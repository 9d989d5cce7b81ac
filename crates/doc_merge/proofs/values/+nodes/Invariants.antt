-- What is noted and what is left are the whole; a node is at most as deep as its set.
use Rattle.std.proofs.Common.{◌≡◌, ◌+◌, ◌*◌, drop}
use Rattle.plan_ir.specs.Nodes.{set_depth}
use Rattle.plan_ir.specs.NodesView.{node_of, nodes_of}
use Rattle.doc_merge.specs.Places.{least_from}
use Rattle.doc_merge.specs.Values.{nodes_unfit}
use Rattle.doc_merge.proofs.values.+nodes.Given as goal

abbrev pub decreases-note_nodes : goal.decreases-note_nodes
decreases-note_nodes l = 2 * set_depth l.nodes.now + 1

abbrev pub decreases-note_node : goal.decreases-note_node
decreases-note_node l = 2 * set_depth (node_of l.node.now)

abbrev pub invariant-note_nodes-nodes : goal.invariant-note_nodes-nodes
invariant-note_nodes-nodes l =
    (nodes_of l.node-items ≡ l.nodes)
    × (least_from l.least.at (nodes_unfit l.schema l.variables.defined.now l.around (nodes_of (drop l.node-index l.node-items)))
    ≡ least_from l.initial.least.at (nodes_unfit l.schema l.variables.defined.now l.around l.nodes))
