-- What is left leads to the whole.
use Rattle.std.proofs.Common.{◌≡◌, map, drop, Some}
use Rattle.plan_ir.specs.store_model.Walks.{field_of}
use Rattle.plan_ir.specs.store_record.declared.record.Slot.TheVariants.{Alive}
use Rattle.store_retain.proofs.walk.follow_path.Given as goal
use Rattle.store_retain.specs.Steps.{Found, Follows, slots_of, ways_steps}
use Rattle.store_retain.specs.TrailView.{way_at}

abbrev pub invariant-trails : goal.invariant-trails
invariant-trails g l = record {
  follows : (end : Found) → Follows (slots_of (g.S.RecordSource.records l.store.source.now)) l.store.root.now l.found end (ways_steps (field_of (Some (Alive l.row))) l.path.numbers.items (map way_at (drop l.at-index l.at-items)))
      → Follows (slots_of (g.S.RecordSource.records l.store.source.now)) l.store.root.now l.initial.found end (ways_steps (field_of (Some (Alive l.row))) l.path.numbers.items (map way_at l.at-items));
  applies : g.S.Count.Steps.applies l.steps ≡ g.S.Count.Steps.applies l.initial.steps;
}
