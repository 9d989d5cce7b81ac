use Rattle.std.proofs.Common.{◌≡◌, ◌+◌, ◌≤◌, ◌++◌, drop}
use Rattle.store_model.specs.Merge.{live_edges}
use Rattle.store_conn.proofs.edges.live_edges.Given as goal
use Rattle.store_conn.specs.Lists.{ids_in}

abbrev pub invariant-edges : goal.invariant-edges
invariant-edges g l = record {
  edges : l.live.items ++ live_edges (g.S.RecordSource.records l.source) (drop l.edge-index l.edges) ≡ live_edges (g.S.RecordSource.records l.source) l.edges;
  looks : g.S.Count.Steps.looks l.steps + ids_in (drop l.edge-index l.edges) ≤ g.S.Count.Steps.looks l.fn.steps + ids_in l.edges;
  applies : g.S.Count.Steps.applies l.steps ≡ g.S.Count.Steps.applies l.fn.steps;
}
