-- What is found, and what stands below where the walk goes on, is the same before each round.
use Rattle.std.proofs.Common.{◌≡◌, ◌-◌}
use Rattle.plan_ir.specs.store_record.Keys.{Text}
use Rattle.store_retain.proofs.Rounds.{still}
use Rattle.store_retain.proofs.walk.walk.Given as goal
use Rattle.store_retain.specs.RoadView.{table_of}
use Rattle.store_retain.specs.Steps.{slots_of}

abbrev pub invariant-rounds : goal.invariant-rounds
invariant-rounds g l = record {
  ids : (j : Text) → still (slots_of (g.S.RecordSource.records l.store.source.now)) l.store.root.now (table_of l.parts) j (l.rounds - l.counter) l.found
      ≡ still (slots_of (g.S.RecordSource.records l.store.source.now)) l.store.root.now (table_of l.parts) j l.rounds l.initial.found;
  applies : g.S.Count.Steps.applies l.steps ≡ g.S.Count.Steps.applies l.initial.steps;
}
