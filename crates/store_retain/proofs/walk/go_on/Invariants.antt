-- What is left leads to the whole.
use Rattle.std.proofs.Common.{◌≡◌, map}
use Rattle.store_retain.proofs.walk.go_on.Given as goal
use Rattle.store_retain.specs.FoundView.{stand_of}
use Rattle.store_retain.specs.PathView.{AreRight}
use Rattle.store_retain.specs.RoadView.{table_of}
use Rattle.store_retain.specs.Steps.{Found, Follows, slots_of, stands_steps}

abbrev pub invariant-stands : goal.invariant-stands
invariant-stands g l = record {
  follows : (end : Found) → Follows (slots_of (g.S.RecordSource.records l.store.source.now)) l.store.root.now l.found end (stands_steps (slots_of (g.S.RecordSource.records l.store.source.now)) l.store.root.now (table_of l.parts) (map stand_of l.id-iterator))
      → Follows (slots_of (g.S.RecordSource.records l.store.source.now)) l.store.root.now l.initial.found end (stands_steps (slots_of (g.S.RecordSource.records l.store.source.now)) l.store.root.now (table_of l.parts) (map stand_of l.initial.id-iterator));
  right : AreRight (table_of l.parts) l.known.made.items;
  applies : g.S.Count.Steps.applies l.steps ≡ g.S.Count.Steps.applies l.initial.steps;
}
