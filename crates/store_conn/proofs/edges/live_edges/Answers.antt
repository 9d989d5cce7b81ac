use Rattle.std.proofs.Common.{◌+◌, ◌∙◌, arith}
use Rattle.store_model.specs.Merge.{live_edges}
use Rattle.store_conn.proofs.Steps.{made_next, live_splits, ids_next}
use Rattle.store_conn.proofs.edges.live_edges.Goals as goal

pub edges-preserved : goal.edges-preserved
edges-preserved g c =
    let m = g.S.RecordSource.records c.args.source.now in
    let edges = c.args.edges.now in
    let i = c.edges.edge-index in
    let edge = c.edge-item.result in
    let fewer = ids_next edges i edge c.edges-test.true c.edge-item.is in
    record {
      edges = made_next (live_edges m) (live_splits m) c.edges.live.items _ edges i edge c.edges-test.true c.edge-item.is c.in_ok-push_live.ensures.edges ∙ c.edges.invariant.edges;
      looks = omega (arith, fewer, c.edges.invariant.looks, c.push_live.ensures.looks);
      applies = c.push_live.ensures.applies ∙ c.edges.invariant.applies;
    }

pub returns-in_err-push_live-clause-looks : goal.returns-in_err-push_live-clause-looks
returns-in_err-push_live-clause-looks g c =
    let fewer = ids_next c.args.edges.now c.edges.edge-index c.edge-item.result c.edges-test.true c.edge-item.is in
    omega (arith, fewer, c.edges.invariant.looks, c.push_live.ensures.looks)
