-- One more node; what stands in a node is less deep than it.
use Rattle.std.proofs.Common.{◌≤◌, ap, ◌∙◌, arith}
use Rattle.std.proofs.lemmas.Result.{on_ok_weaker}
use Rattle.plan_ir.specs.Nodes.{set_depth}
use Rattle.plan_ir.specs.NodesView.{node_of}
use Rattle.doc_merge.proofs.GatherSteps.{node_below}
use Rattle.doc_merge.proofs.UnfitSteps.{field_unfit, inline_unfit}
use Rattle.doc_merge.proofs.ValueSteps.{unfit_next}
use Rattle.doc_merge.specs.Values.{field_inputs}
use Rattle.doc_merge.proofs.values.+nodes.Goals as goal

pub note_nodes-note_node-requires : goal.note_nodes-note_node-requires
note_nodes-note_node-requires t c =
    let less : set_depth (node_of c.node-item.result) ≤ set_depth c.args.nodes.now =
    node_below _ _ c.nodes.node-index c.node-item.result (omega arith) c.node-item.is c.nodes.invariant.0 in
    (omega arith, c.requires.1.1)

pub note_nodes-nodes-preserved : goal.note_nodes-nodes-preserved
note_nodes-nodes-preserved t c = (
  c.nodes.invariant.0,
  unfit_next c.args.schema.now c.args.variables.now.defined.now c.args.around.now _ c.nodes.node-index c.node-item.result _ _ _ (omega arith) c.node-item.is c.in_ok-note_node.ensures c.nodes.invariant.1,
)

pub note_node-returns-in_ok-note_directives-in-Field : goal.note_node-returns-in_ok-note_directives-in-Field
note_node-returns-in_ok-note_directives-in-Field t c =
    on_ok_weaker c.note_nodes.result
    (λ e. field_unfit c.args.schema.now c.args.variables.now.defined.now c.args.around.now c.args.node.now _ _ _ _ _ _ _ _ c.in-Field.is _ _ _ _ _ _
    (c.field_inputs-inputs.ensures ∙ ap (field_inputs c.args.schema.now c.args.around.now) c.as_str.ensures) c.base_of.ensures c.in_ok-note_arguments-in-Field.ensures c.in_ok-note_directives-in-Field.ensures e)
    c.note_nodes.ensures

pub note_node-returns-in_ok-note_directives-in-Inline : goal.note_node-returns-in_ok-note_directives-in-Inline
note_node-returns-in_ok-note_directives-in-Inline t c =
    on_ok_weaker c.note_nodes-in-Inline.result
    (λ e. inline_unfit c.args.schema.now c.args.variables.now.defined.now c.args.around.now c.args.node.now _ _ _ _ c.in-Inline.is _ _ _ _ c.on_or.ensures c.in_ok-note_directives-in-Inline.ensures e)
    c.note_nodes-in-Inline.ensures
