use Rattle.std.proofs.Common.{◌≡◌, ap, ◌∙◌}
use Rattle.store_model.specs.Merge.{edges_of}
use Rattle.store_model.specs.Updates.{with_edge}
use Rattle.store_conn.proofs.Puts.{edge_pushed}
use Rattle.store_conn.proofs.edit.with_new_edge.Goals as goal
use Rattle.store_conn.specs.Connections.{kept_of}

pub returns : goal.returns
returns c =
    let edges = c.edges_of.ensures ∙ ap edges_of c.get.ensures in
    edge_pushed (kept_of c.args.connection.now) c.args.edit.now c.args.front c.in_ok-first.first c.in_ok-second.second c.new-changes.result.items _ _ _ _ _ c.in_ok-list.list c.in_ok-row.row c.in_ok-edge.edge
    c.in_ok-id.ensures edges c.in_ok-list.ensures c.in_ok-row.ensures c.in_ok-edge.ensures c.in_ok-own_id.ensures c.in_ok-first.ensures c.in_ok-second.ensures c.new-changes.ensures.items c.in_ok-push.ensures.items c.in_ok-push-2.ensures.items
