use Rattle.std.proofs.Common.{◌≤◌}
use Rattle.std.specs.List.{AllByRecursion}
use Rattle.store_update.specs.store_model.Said.{HaveHandleKeys}
use Rattle.store_update.specs.store_model.declared.entry.Entry.{Entry}
use Rattle.store_layers.specs.Versions.{entries_within}
use Rattle.store_layers.proofs.fold.look_at_keys.Given as goal

abbrev pub invariant-layers : goal.invariant-layers
invariant-layers l = record {
  order : l.at ≤ l.end;
  keys : AllByRecursion (λ (e : Entry). HaveHandleKeys e.facts.handles) (entries_within 0 l.at l.entries.entries);
}
