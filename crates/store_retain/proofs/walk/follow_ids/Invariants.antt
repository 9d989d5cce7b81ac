-- What is left leads to the whole.
use Rattle.std.proofs.Common.{◌≡◌, drop}
use Rattle.plan_ir.specs.store_model.Entries.{some_ids}
use Rattle.store_retain.proofs.walk.follow_ids.Given as goal
use Rattle.store_retain.specs.Steps.{Found, Follows, slots_of, steps_to}

abbrev pub invariant-ids : goal.invariant-ids
invariant-ids g l = record {
  follows : (end : Found) → Follows (slots_of (g.S.RecordSource.records l.store.source.now)) l.store.root.now l.found end (steps_to l.types l.numbers (some_ids (drop l.id-index l.id-items)))
      → Follows (slots_of (g.S.RecordSource.records l.store.source.now)) l.store.root.now l.initial.found end (steps_to l.types l.numbers (some_ids l.id-items));
  applies : g.S.Count.Steps.applies l.steps ≡ g.S.Count.Steps.applies l.initial.steps;
}
