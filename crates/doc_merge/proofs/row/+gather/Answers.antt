-- One more node; what stands in an inline fragment is less deep than the node.
use Rattle.std.proofs.Common.{◌<◌, ◌≤◌, map, arith}
use Rattle.std.specs.Prelude.{option_copied}
use Rattle.plan_ir.specs.Nodes.{set_depth}
use Rattle.plan_ir.specs.NodesView.{node_of}
use Rattle.doc_merge.proofs.GatherSteps.{inline_deep, node_below, rows_next}
use Rattle.doc_merge.proofs.row.+gather.Goals as goal

pub put_fields-put_node-requires : goal.put_fields-put_node-requires
put_fields-put_node-requires t c =
    let less : set_depth (node_of c.node-item.result) ≤ set_depth c.args.nodes.now =
    node_below _ _ c.nodes.node-index c.node-item.result (omega arith) c.node-item.is c.nodes.invariant.0 in
    (omega arith, tt)

pub put_fields-nodes-preserved : goal.put_fields-nodes-preserved
put_fields-nodes-preserved t c = (
  c.nodes.invariant.0,
  rows_next c.args.schema.now (map option_copied c.args.pattern.now) c.args.around.now _ c.nodes.node-index c.node-item.result _ _ _ (omega arith) c.node-item.is c.in_ok-put_node.ensures c.nodes.invariant.1,
)

pub put_node-put_fields-requires : goal.put_node-put_fields-requires
put_node-put_fields-requires t c =
    let less : set_depth c.in-Inline.selections < set_depth (node_of c.args.node.now) = inline_deep _ _ _ _ _ c.in-Inline.is in
    (omega arith, tt)
