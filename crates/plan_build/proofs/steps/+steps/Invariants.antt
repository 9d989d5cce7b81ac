-- What is put and what is left are the whole; what stands below a node is less deep than it.
use Rattle.std.proofs.Common.{◌≡◌, ◌+◌, ◌*◌, drop}
use Rattle.plan_ir.specs.Nodes.{set_depth}
use Rattle.plan_ir.specs.NodesView.{node_of, nodes_of}
use Rattle.plan_ir.specs.Normal.{normal_append}
use Rattle.plan_build.specs.AroundView.{IsOfComposite, types_of}
use Rattle.plan_build.specs.KeptView.{IsRight}
use Rattle.plan_build.specs.Steps.{steps_of}
use Rattle.plan_build.proofs.steps.+steps.Given as goal

abbrev pub decreases-make_steps : goal.decreases-make_steps
decreases-make_steps l = 16 * set_depth l.nodes.now + 2

abbrev pub decreases-put_nodes : goal.decreases-put_nodes
decreases-put_nodes l = 16 * set_depth l.nodes.now + 1

abbrev pub decreases-put_node : goal.decreases-put_node
decreases-put_node l = 16 * set_depth (node_of l.node.now)

abbrev pub decreases-put_field : goal.decreases-put_field
decreases-put_field l = 16 * set_depth l.field.now.selections.now + 9

abbrev pub decreases-put_field_steps : goal.decreases-put_field_steps
decreases-put_field_steps l = 16 * set_depth l.field.now.selections.now + 8

abbrev pub decreases-make_child : goal.decreases-make_child
decreases-make_child l = 16 * set_depth l.field.now.selections.now + 3

abbrev pub decreases-put_inline : goal.decreases-put_inline
decreases-put_inline l = 16 * set_depth l.selections.now + 9

abbrev pub decreases-put_on : goal.decreases-put_on
decreases-put_on l = 16 * set_depth l.selections.now + 8

abbrev pub decreases-put_inside : goal.decreases-put_inside
decreases-put_inside l = 16 * set_depth l.selections.now + 7

abbrev pub invariant-put_nodes-nodes : goal.invariant-put_nodes-nodes
invariant-put_nodes-nodes l =
    (nodes_of l.node-items ≡ l.nodes)
    × (normal_append l.steps (steps_of l.schema (types_of l.schema l.around) (nodes_of (drop l.node-index l.node-items))) ≡ normal_append l.initial.steps (steps_of l.schema (types_of l.schema l.around) l.nodes))
    × IsRight l.schema l.kept
    × IsOfComposite l.schema l.around
