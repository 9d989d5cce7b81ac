use Rattle.std.proofs.Common.{◌≡◌, drop}
use Rattle.store_model.specs.Merge.{nodes_of}
use Rattle.store_conn.proofs.edges.note_nodes.Given as goal
use Rattle.store_conn.specs.Nodes.{knows, and_nodes}

abbrev pub invariant-edges : goal.invariant-edges
invariant-edges l = and_nodes (nodes_of (drop l.edge-index l.edges)) (knows l.nodes.ids) ≡ and_nodes (nodes_of l.edges) (knows l.fn.nodes.ids)
