use Rattle.std.proofs.Common.{length, Some, sym, ap, ◌∙◌, arith}
use Rattle.store_model.specs.Merge.{edges_of, nodes_at, is_among}
use Rattle.store_conn.proofs.Cases.{inserted_stays, inserted_put}
use Rattle.store_conn.proofs.edit.inserted_into.Goals as goal
use Rattle.store_conn.specs.Changes.{put_all}
use Rattle.store_conn.specs.Connections.{kept_of}
use Rattle.store_conn.specs.Lists.{ids_in}

pub returns-then-any_has_node-clause-records : goal.returns-then-any_has_node-clause-records
returns-then-any_has_node-clause-records g c =
    let m = g.S.RecordSource.records c.args.source.now in
    let there = sym (c.any_has_node.ensures.answer ∙ ap (λ es. is_among (nodes_at m es) (Some c.args.edit.now.node)) (c.edges_of.ensures ∙ ap edges_of c.get.ensures)) ∙ c.if-any_has_node.true in
    ap (λ cs. put_all cs m) c.new.ensures.items ∙ inserted_stays c.args.edit.now (kept_of c.args.connection.now) m c.args.front there

pub returns-clause-records : goal.returns-clause-records
returns-clause-records g c =
    let m = g.S.RecordSource.records c.args.source.now in
    let there = sym (c.any_has_node.ensures.answer ∙ ap (λ es. is_among (nodes_at m es) (Some c.args.edit.now.node)) (c.edges_of.ensures ∙ ap edges_of c.get.ensures)) ∙ c.if-any_has_node.false in
    ap (λ cs. put_all cs m) c.in_ok-changes.ensures ∙ inserted_put c.args.edit.now (kept_of c.args.connection.now) m c.args.front there

pub returns-then-any_has_node-clause-looks : goal.returns-then-any_has_node-clause-looks
returns-then-any_has_node-clause-looks g c =
    let m = g.S.RecordSource.records c.args.source.now in
    let same = ap ids_in (c.edges_of.ensures ∙ ap edges_of c.get.ensures) in
    omega (arith, same, c.any_has_node.ensures.looks)

pub returns-clause-looks : goal.returns-clause-looks
returns-clause-looks g c =
    let m = g.S.RecordSource.records c.args.source.now in
    let same = ap ids_in (c.edges_of.ensures ∙ ap edges_of c.get.ensures) in
    omega (arith, same, c.any_has_node.ensures.looks)

pub returns-in_err-changes-clause-looks : goal.returns-in_err-changes-clause-looks
returns-in_err-changes-clause-looks g c =
    let m = g.S.RecordSource.records c.args.source.now in
    let same = ap ids_in (c.edges_of.ensures ∙ ap edges_of c.get.ensures) in
    omega (arith, same, c.any_has_node.ensures.looks)

pub returns-clause-few : goal.returns-clause-few
returns-clause-few g c = omega (arith, ap length c.in_ok-changes.ensures)
