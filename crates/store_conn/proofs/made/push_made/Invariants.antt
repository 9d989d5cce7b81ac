use Rattle.std.proofs.Common.{◌≡◌, ◌++◌, drop}
use Rattle.store_conn.proofs.made.push_made.Given as goal
use Rattle.store_conn.specs.Changes.{edge_ids_of}

abbrev pub invariant-edges : goal.invariant-edges
invariant-edges l = l.list ++ edge_ids_of (drop l.edge-index l.edges) ≡ l.fn.list ++ edge_ids_of l.edges
