use Rattle.std.proofs.Common.{Some, ap, ◌∙◌}
use Rattle.store_model.specs.store_record.Keys.{client_id}
use Rattle.store_conn.proofs.Steps.{changes_next, counter_next}
use Rattle.store_conn.proofs.made.make_edges.Goals as goal

pub rows-preserved : goal.rows-preserved
rows-preserved c =
    let connection = c.args.connection.now.id in
    let rows = c.args.rows.now in
    let i = c.rows.row-index in
    let row = c.row-item.result in
    let k = c.rows.next in
    let named = c.in_ok-id.ensures ∙ ap (λ key. client_id connection key (Some k)) c.in_ok-key.ensures in
    record {
      edges = changes_next connection _ k _ _ c.rows.edges.items _ rows i row c.rows-test.true c.row-item.is named c.in_ok-row.ensures c.next_edge-next.ensures c.in_ok-push.ensures.items ∙ c.rows.invariant.edges;
      next = counter_next k _ rows i row c.rows-test.true c.row-item.is c.next_edge-next.ensures ∙ c.rows.invariant.next;
    }
