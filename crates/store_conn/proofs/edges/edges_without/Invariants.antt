use Rattle.std.proofs.Common.{◌≡◌, ◌+◌, ◌≤◌, ◌++◌, drop}
use Rattle.store_model.specs.Updates.{edges_without}
use Rattle.store_conn.proofs.edges.edges_without.Given as goal
use Rattle.store_conn.specs.Lists.{ids_in}

abbrev pub invariant-edges : goal.invariant-edges
invariant-edges g l = record {
  list : l.list ++ edges_without (g.S.RecordSource.records l.source) l.node (drop l.edge-index l.edges) ≡ edges_without (g.S.RecordSource.records l.source) l.node l.edges;
  looks : g.S.Count.Steps.looks l.steps + ids_in (drop l.edge-index l.edges) ≤ g.S.Count.Steps.looks l.fn.steps + ids_in l.edges;
  applies : g.S.Count.Steps.applies l.steps ≡ g.S.Count.Steps.applies l.fn.steps;
}
