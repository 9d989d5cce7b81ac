use Rattle.std.proofs.Common.{arith, length, codes, ap, ◌∙◌}
use Rattle.store_model.specs.Records.{with_field, with_record}
use Rattle.store_conn.proofs.edit.without_node.Goals as goal
use Rattle.store_conn.specs.Changes.{put_all}

pub returns-clause-records : goal.returns-clause-records
returns-clause-records g c =
    let m = g.S.RecordSource.records c.args.source.now in
    let connection = c.args.connection.now in
    ap (λ cs. put_all cs m) c.in_ok-changes.ensures
    ∙ ap (λ f. with_record connection.id (with_field (codes "edges") f connection.row) m) c.in_ok-edges.ensures.field

pub returns-clause-few : goal.returns-clause-few
returns-clause-few g c = omega (arith, ap length c.in_ok-changes.ensures)
