use Rattle.std.proofs.Common.{◌≡◌, ◌++◌, drop}
use Rattle.store_conn.proofs.edges.push_edges.Given as goal

abbrev pub invariant-edges : goal.invariant-edges
invariant-edges l = l.list ++ drop l.edge-index l.edges ≡ l.fn.list ++ l.edges
