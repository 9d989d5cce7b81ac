use Rattle.std.proofs.Common.{◌≡◌}
use Rattle.store_conn.proofs.changes.put_all.Given as goal
use Rattle.store_conn.specs.Changes.{put_all}

abbrev pub invariant-changes : goal.invariant-changes
invariant-changes g l = record {
  records : put_all l.change-iterator.rest.items (g.S.RecordSource.records l.current) ≡ put_all l.initial.change-iterator.rest.items (g.S.RecordSource.records l.fn.source);
  looks : g.S.Count.Steps.looks l.steps ≡ g.S.Count.Steps.looks l.fn.steps;
  applies : g.S.Count.Steps.applies l.steps ≡ g.S.Count.Steps.applies l.fn.steps;
}
