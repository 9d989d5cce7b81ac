use Rattle.std.proofs.Common.{◌≡◌, ◌+◌, Option, sym, ap, ◌∙◌, arith}
use Rattle.store_model.specs.store_record.Keys.{Text}
use Rattle.store_model.specs.Merge.{nodes_at}
use Rattle.store_conn.proofs.Steps.{drop_past, wanted_next, ids_next}
use Rattle.store_conn.proofs.edges.note_wanted.Goals as goal
use Rattle.store_conn.specs.Nodes.{knows, and_wanted, and_all_wanted}

pub edges-preserved : goal.edges-preserved
edges-preserved g c =
    let m = g.S.RecordSource.records c.args.source.now in
    let edges = c.args.edges.now in
    let i = c.edges.edge-index in
    let edge = c.edge-item.result in
    let wanted = knows c.args.wanted.now.ids in
    let known = knows c.edges.nodes.ids in
    let fewer = ids_next edges i edge c.edges-test.true c.edge-item.is in
    record {
      nodes = wanted_next wanted m known _ edges i edge c.edges-test.true c.edge-item.is
          (λ (other : Option Text). c.in_ok-insert_wanted.ensures other ∙ ap (λ n. and_wanted wanted n known other) c.node_at-node.ensures.node) ∙ c.edges.invariant.nodes;
      looks = omega (arith, fewer, c.edges.invariant.looks, c.node_at-node.ensures.looks);
      applies = c.node_at-node.ensures.applies ∙ c.edges.invariant.applies;
    }

pub returns-in_err-insert_wanted-clause-looks : goal.returns-in_err-insert_wanted-clause-looks
returns-in_err-insert_wanted-clause-looks g c =
    let fewer = ids_next c.args.edges.now c.edges.edge-index c.edge-item.result c.edges-test.true c.edge-item.is in
    omega (arith, fewer, c.edges.invariant.looks, c.node_at-node.ensures.looks)

pub returns-clause-nodes : goal.returns-clause-nodes
returns-clause-nodes g c =
    let m = g.S.RecordSource.records c.args.source.now in
    ap (λ es. and_all_wanted (knows c.args.wanted.now.ids) (nodes_at m es) (knows c.edges.nodes.ids)) (sym (drop_past c.edges.edge-index c.args.edges.now c.edges-test.false)) ∙ c.edges.invariant.nodes
