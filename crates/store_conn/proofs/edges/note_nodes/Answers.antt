use Rattle.std.proofs.Common.{Option, sym, ap, ◌∙◌}
use Rattle.store_model.specs.store_record.Keys.{Text}
use Rattle.store_model.specs.Merge.{node_of, nodes_of}
use Rattle.store_conn.proofs.Steps.{drop_past, nodes_next}
use Rattle.store_conn.proofs.edges.note_nodes.Goals as goal
use Rattle.store_conn.specs.Nodes.{knows, and_node, and_nodes}

pub edges-preserved : goal.edges-preserved
edges-preserved c =
    let edges = c.args.edges.now in
    let i = c.edges.edge-index in
    let edge = c.edge-item.result in
    let known = knows c.edges.nodes.ids in
    nodes_next edges i edge c.edges-test.true c.edge-item.is known _
    (λ (other : Option Text). c.in_ok-insert.ensures other ∙ ap (λ n. and_node n known other) (c.node_of-node.ensures ∙ ap node_of c.get.ensures)) ∙ c.edges.invariant

pub returns : goal.returns
returns c =
    ap (λ es. and_nodes (nodes_of es) (knows c.edges.nodes.ids)) (sym (drop_past c.edges.edge-index c.args.edges.now c.edges-test.false)) ∙ c.edges.invariant
