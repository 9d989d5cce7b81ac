use Rattle.std.proofs.Common.{◌≡◌, ◌+◌, ◌≤◌, ◌++◌, drop}
use Rattle.store_conn.proofs.edges.push_edges_but.Given as goal
use Rattle.store_conn.specs.Lists.{ids_in}
use Rattle.store_conn.specs.Nodes.{knows, edges_but}

abbrev pub invariant-edges : goal.invariant-edges
invariant-edges g l = record {
  list : l.list ++ edges_but (knows l.nodes.ids) (g.S.RecordSource.records l.source) (drop l.edge-index l.edges) ≡ l.fn.list ++ edges_but (knows l.nodes.ids) (g.S.RecordSource.records l.source) l.edges;
  looks : g.S.Count.Steps.looks l.steps + ids_in (drop l.edge-index l.edges) ≤ g.S.Count.Steps.looks l.fn.steps + ids_in l.edges;
  applies : g.S.Count.Steps.applies l.steps ≡ g.S.Count.Steps.applies l.fn.steps;
}
