-- What the law of retained reads says of an engine: a sweep changes no read of a retained operation, nor of a pointer that one gives.
use Rattle.std.specs.Prelude.{◌≡◌, Bool, true, List}
use Rattle.std.specs.List.{AllByRecursion}
use Rattle.line_engine.specs.relay_machine.Effects.{sweeps}
use Rattle.line_engine.specs.Kept.{Kept}
use Rattle.line_engine.specs.Stands.{StandsFor}
use Rattle.line_engine.specs.relay_machine.Machine.{Project, State, retained}
use Rattle.line_engine.specs.store_layers.Layered.{entries_of}
use Rattle.line_engine.specs.store_sweeps.Swept.{chosen}
use Rattle.plan_ir.specs.schema_tables.Types.{Text}
use Rattle.plan_ir.specs.store_model.Entries.{fold_entries}
use Rattle.plan_ir.specs.store_model.Events.{Line}
use Rattle.retained_reads.specs.Reads.{StaysRead}

-- whichever state the engine stood for, and whoever owns the pointers
abbrev pub KeepsRetainedReads : (old new : Kept) → Line → Type 0
KeepsRetainedReads old new line = (p : Project) (s : State) → StandsFor old p s → sweeps line ≡ true → (owner : Text)
    → AllByRecursion (StaysRead p owner old.layers.base new.layers.base) (retained old.buffer s)

-- so it is in each fold of some of the live layers over the base before and over the base after; no layer that is dropped brings a loss to light
abbrev pub KeepsLayeredReads : (old new : Kept) → Line → Type 0
KeepsLayeredReads old new line = (p : Project) (s : State) → StandsFor old p s → sweeps line ≡ true → (owner : Text) (choice : List Bool)
    → AllByRecursion (StaysRead p owner (fold_entries (chosen choice (entries_of old.layers.live)) old.layers.base) (fold_entries (chosen choice (entries_of new.layers.live)) new.layers.base))
    (retained old.buffer s)
