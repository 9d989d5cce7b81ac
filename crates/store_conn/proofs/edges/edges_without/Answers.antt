use Rattle.std.proofs.Common.{◌+◌, ◌∙◌, arith}
use Rattle.store_model.specs.Updates.{edges_without}
use Rattle.store_conn.proofs.Steps.{made_next, without_splits, ids_next}
use Rattle.store_conn.proofs.edges.edges_without.Goals as goal

pub edges-preserved : goal.edges-preserved
edges-preserved g c =
    let m = g.S.RecordSource.records c.args.source.now in
    let node = c.args.node.now in
    let edges = c.args.edges.now in
    let i = c.edges.edge-index in
    let edge = c.edge-item.result in
    let fewer = ids_next edges i edge c.edges-test.true c.edge-item.is in
    record {
      list = made_next (edges_without m node) (without_splits m node) c.edges.list _ edges i edge c.edges-test.true c.edge-item.is c.in_ok-push_without.ensures.list ∙ c.edges.invariant.list;
      looks = omega (arith, fewer, c.edges.invariant.looks, c.push_without.ensures.looks);
      applies = c.push_without.ensures.applies ∙ c.edges.invariant.applies;
    }

pub returns-in_err-push_without-clause-looks : goal.returns-in_err-push_without-clause-looks
returns-in_err-push_without-clause-looks g c =
    let fewer = ids_next c.args.edges.now c.edges.edge-index c.edge-item.result c.edges-test.true c.edge-item.is in
    omega (arith, fewer, c.edges.invariant.looks, c.push_without.ensures.looks)
