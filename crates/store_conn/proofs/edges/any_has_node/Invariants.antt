use Rattle.std.proofs.Common.{◌≡◌, ◌+◌, ◌≤◌, Some, drop}
use Rattle.store_model.specs.Merge.{nodes_at, is_among}
use Rattle.store_conn.proofs.edges.any_has_node.Given as goal
use Rattle.store_conn.specs.Lists.{ids_in}

abbrev pub invariant-edges : goal.invariant-edges
invariant-edges g l = record {
  answer : is_among (nodes_at (g.S.RecordSource.records l.source) (drop l.edge-index l.edges)) (Some l.node) ≡ is_among (nodes_at (g.S.RecordSource.records l.source) l.edges) (Some l.node);
  looks : g.S.Count.Steps.looks l.steps + ids_in (drop l.edge-index l.edges) ≤ g.S.Count.Steps.looks l.fn.steps + ids_in l.edges;
  applies : g.S.Count.Steps.applies l.steps ≡ g.S.Count.Steps.applies l.fn.steps;
}
