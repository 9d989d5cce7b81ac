use Rattle.std.proofs.Common.{sym, ap, ◌∙◌}
use Rattle.store_conn.proofs.Steps.{drop_past, edges_next, unknown_next}
use Rattle.store_conn.proofs.edges.new_edges.Goals as goal
use Rattle.store_conn.specs.Nodes.{knows, and_edges}

pub edges-preserved : goal.edges-preserved
edges-preserved c =
    let edges = c.args.edges.now in
    let i = c.edges.edge-index in
    let edge = c.edge-item.result in
    let known = knows c.edges.nodes.ids in
    record {
      edges = unknown_next edges i edge c.edges-test.true c.edge-item.is known _ c.edges.new.items _ c.in_ok-push_new.ensures.nodes c.in_ok-push_new.ensures.edges ∙ c.edges.invariant.edges;
      nodes = edges_next edges i edge c.edges-test.true c.edge-item.is known _ c.in_ok-push_new.ensures.nodes ∙ c.edges.invariant.nodes;
    }

pub returns-clause-nodes : goal.returns-clause-nodes
returns-clause-nodes c =
    ap (λ es. and_edges es (knows c.edges.nodes.ids)) (sym (drop_past c.edges.edge-index c.args.edges.now c.edges-test.false)) ∙ c.edges.invariant.nodes
