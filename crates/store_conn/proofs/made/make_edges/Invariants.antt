use Rattle.std.proofs.Common.{◌≡◌, ◌++◌, drop}
use Rattle.store_model.specs.Merge.{counter_after}
use Rattle.store_conn.proofs.made.make_edges.Given as goal
use Rattle.store_conn.specs.Changes.{edge_changes}

abbrev pub invariant-rows : goal.invariant-rows
invariant-rows l = record {
  edges : l.edges.items ++ edge_changes l.connection.id l.next (drop l.row-index l.rows) ≡ edge_changes l.connection.id l.connection.next l.rows;
  next : counter_after l.next (drop l.row-index l.rows) ≡ counter_after l.connection.next l.rows;
}
