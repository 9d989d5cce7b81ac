use Rattle.std.proofs.Common.{◌+◌, ◌∙◌, arith}
use Rattle.store_conn.proofs.Steps.{made_next, but_splits, ids_next}
use Rattle.store_conn.proofs.edges.push_edges_but.Goals as goal
use Rattle.store_conn.specs.Nodes.{knows, edges_but}

pub edges-preserved : goal.edges-preserved
edges-preserved g c =
    let m = g.S.RecordSource.records c.args.source.now in
    let known = knows c.args.nodes.now.ids in
    let edges = c.args.edges.now in
    let i = c.edges.edge-index in
    let edge = c.edge-item.result in
    let fewer = ids_next edges i edge c.edges-test.true c.edge-item.is in
    record {
      list = made_next (edges_but known m) (but_splits known m) c.edges.list _ edges i edge c.edges-test.true c.edge-item.is c.in_ok-push_other.ensures.list ∙ c.edges.invariant.list;
      looks = omega (arith, fewer, c.edges.invariant.looks, c.push_other.ensures.looks);
      applies = c.push_other.ensures.applies ∙ c.edges.invariant.applies;
    }

pub returns-in_err-push_other-clause-looks : goal.returns-in_err-push_other-clause-looks
returns-in_err-push_other-clause-looks g c =
    let fewer = ids_next c.args.edges.now c.edges.edge-index c.edge-item.result c.edges-test.true c.edge-item.is in
    omega (arith, fewer, c.edges.invariant.looks, c.push_other.ensures.looks)
