use Rattle.std.proofs.Common.{◌+◌, Some, sym, ◌∙◌, arith}
use Rattle.store_conn.proofs.Steps.{among_next, among_found, ids_next}
use Rattle.store_conn.proofs.edges.any_has_node.Goals as goal

pub edges-preserved : goal.edges-preserved
edges-preserved g c =
    let m = g.S.RecordSource.records c.args.source.now in
    let edges = c.args.edges.now in
    let i = c.edges.edge-index in
    let edge = c.edge-item.result in
    let fewer = ids_next edges i edge c.edges-test.true c.edge-item.is in
    record {
      answer = among_next m (Some c.args.node.now) edges i edge c.edges-test.true c.edge-item.is (sym c.has_node.ensures.answer ∙ c.if-has_node.false) ∙ c.edges.invariant.answer;
      looks = omega (arith, fewer, c.edges.invariant.looks, c.has_node.ensures.looks);
      applies = c.has_node.ensures.applies ∙ c.edges.invariant.applies;
    }

pub returns-then-has_node-clause-answer : goal.returns-then-has_node-clause-answer
returns-then-has_node-clause-answer g c =
    let m = g.S.RecordSource.records c.args.source.now in
    let edges = c.args.edges.now in
    let i = c.edges.edge-index in
    let edge = c.edge-item.result in
    sym (sym c.edges.invariant.answer ∙ among_found m (Some c.args.node.now) edges i edge c.edges-test.true c.edge-item.is (sym c.has_node.ensures.answer ∙ c.if-has_node.true))

pub returns-then-has_node-clause-looks : goal.returns-then-has_node-clause-looks
returns-then-has_node-clause-looks g c =
    let fewer = ids_next c.args.edges.now c.edges.edge-index c.edge-item.result c.edges-test.true c.edge-item.is in
    omega (arith, fewer, c.edges.invariant.looks, c.has_node.ensures.looks)
