use Rattle.std.proofs.Common.{◌≡◌, ◌+◌, ◌≤◌, drop}
use Rattle.store_model.specs.Merge.{nodes_at}
use Rattle.store_conn.proofs.edges.note_wanted.Given as goal
use Rattle.store_conn.specs.Lists.{ids_in}
use Rattle.store_conn.specs.Nodes.{knows, and_all_wanted}

abbrev pub invariant-edges : goal.invariant-edges
invariant-edges g l = record {
  nodes : and_all_wanted (knows l.wanted.ids) (nodes_at (g.S.RecordSource.records l.source) (drop l.edge-index l.edges)) (knows l.nodes.ids) ≡ and_all_wanted (knows l.wanted.ids) (nodes_at (g.S.RecordSource.records l.source) l.edges) (knows l.fn.nodes.ids);
  looks : g.S.Count.Steps.looks l.steps + ids_in (drop l.edge-index l.edges) ≤ g.S.Count.Steps.looks l.fn.steps + ids_in l.edges;
  applies : g.S.Count.Steps.applies l.steps ≡ g.S.Count.Steps.applies l.fn.steps;
}
