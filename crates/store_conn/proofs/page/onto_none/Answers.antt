use Rattle.std.proofs.Common.{ap, ◌∙◌}
use Rattle.store_conn.proofs.Merges.{none_is}
use Rattle.store_conn.proofs.page.onto_none.Goals as goal
use Rattle.store_conn.specs.Connections.{kept_of}

pub returns-clause-records : goal.returns-clause-records
returns-clause-records g c =
    let m = g.S.RecordSource.records c.args.source.now in
    none_is c.args.handle.now c.args.server.now c.args.parent.now m c.in_ok-id.id c.in_ok-copy.copy (kept_of c.in_ok-connection.connection) c.in_ok-changes.changes.items _
    c.in_ok-id.ensures c.in_ok-copy.ensures c.in_ok-connection.ensures c.in_ok-changes.ensures (c.in_ok-all.ensures.records m)
