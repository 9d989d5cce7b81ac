use Rattle.std.proofs.Common.{◌≡◌, ◌++◌, drop}
use Rattle.store_conn.proofs.edges.new_edges.Given as goal
use Rattle.store_conn.specs.Nodes.{knows, and_edges, unknown_edges}

abbrev pub invariant-edges : goal.invariant-edges
invariant-edges l = record {
  edges : l.new.items ++ unknown_edges (knows l.nodes.ids) (drop l.edge-index l.edges) ≡ unknown_edges (knows l.fn.nodes.ids) l.edges;
  nodes : and_edges (drop l.edge-index l.edges) (knows l.nodes.ids) ≡ and_edges l.edges (knows l.fn.nodes.ids);
}
