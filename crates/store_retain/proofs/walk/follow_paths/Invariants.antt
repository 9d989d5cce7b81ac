-- What is left leads to the whole.
use Rattle.std.proofs.Common.{◌≡◌, drop, Some}
use Rattle.plan_ir.specs.store_model.Walks.{field_of}
use Rattle.plan_ir.specs.store_record.declared.record.Slot.TheVariants.{Alive}
use Rattle.store_retain.proofs.walk.follow_paths.Given as goal
use Rattle.store_retain.specs.PathView.{paths_steps}
use Rattle.store_retain.specs.Steps.{Found, Follows, slots_of}

abbrev pub invariant-paths : goal.invariant-paths
invariant-paths g l = record {
  follows : (end : Found) → Follows (slots_of (g.S.RecordSource.records l.store.source.now)) l.store.root.now l.found end (paths_steps (field_of (Some (Alive l.row))) (drop l.path-index l.paths))
      → Follows (slots_of (g.S.RecordSource.records l.store.source.now)) l.store.root.now l.initial.found end (paths_steps (field_of (Some (Alive l.row))) l.paths);
  applies : g.S.Count.Steps.applies l.steps ≡ g.S.Count.Steps.applies l.initial.steps;
}
