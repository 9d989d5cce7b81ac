use Rattle.std.proofs.Common.{◌≡◌, ◌+◌, ◌*◌, ◌-◌, ◌≤◌, List, ◌++◌}
use Rattle.store_update.specs.store_model.Entries.{fold_entries}
use Rattle.store_update.specs.store_model.declared.entry.Entry.{Entry}
use Rattle.store_layers.proofs.fold.put_versions.Given as goal
use Rattle.store_layers.specs.Versions.{shown, AreVersions, entries_within}
use Rattle.store_layers.specs.Work.{counted, weights}

abbrev pub invariant-layers : goal.invariant-layers
invariant-layers g l = record {
  order : l.from ≤ l.at;
  versions : (before : List Entry) → AreVersions (g.S.RecordSource.records l.base) before (shown g.S.RecordSource.records l.fn.versions.items)
      → AreVersions (g.S.RecordSource.records l.base) (before ++ entries_within l.from l.at l.entries.entries) (shown g.S.RecordSource.records l.versions.items);
  exact : g.S.Count.Steps.applies l.steps ≡ counted (l.at - l.from) (g.S.Count.Steps.applies l.fn.steps);
  applies : g.S.Count.Steps.applies l.steps ≤ g.S.Count.Steps.applies l.fn.steps + (l.at - l.from);
  looks : (before : List Entry) → AreVersions (g.S.RecordSource.records l.base) before (shown g.S.RecordSource.records l.fn.versions.items)
      → g.S.Count.Steps.looks l.steps ≤ g.S.Count.Steps.looks l.fn.steps + 8 * weights (entries_within l.from l.at l.entries.entries) (fold_entries before (g.S.RecordSource.records l.base));
}
