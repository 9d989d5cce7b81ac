use Rattle.std.proofs.Common.{◌++◌, ◌∷◌, [], ap, ◌∙◌, append_assoc}
use Rattle.store_conn.proofs.Puts.{connection_pushed}
use Rattle.store_conn.proofs.made.push_connection.Goals as goal

pub returns : goal.returns
returns c =
    connection_pushed c.args.changes.now.items _ _ c.args.made.edges.items c.in_ok-change.change c.args.connection.now.id c.in_ok-id.id c.args.row c.in_ok-id.ensures c.in_ok-change.ensures c.in_ok-push.ensures.items c.in_ok-push_all.ensures
