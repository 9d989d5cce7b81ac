-- What keeps states named, and what keeps them sound.
use Rattle.std.specs.Prelude.{ℕ}
use Rattle.plan_ir.specs.schema_rules.Rules.{is_object}
use Rattle.plan_ir.specs.schema_tables.Types.{Text}
use Rattle.relay_machine.specs.Machine.{Project, State, base, beginning, step, view}
use Rattle.sound_records.specs.Sound.{AreSound}
use Rattle.sound_states.specs.Named.{IsNamed}
use Rattle.sound_states.specs.Says.{SaysSoundly}
use Rattle.sound_states.specs.Sound.{IsSound}

abbrev pub BeginningIsNamed : Type 0
BeginningIsNamed = IsNamed beginning

-- whatever the project and the bytes of the line
abbrev pub StepsKeepNamed : Type 0
StepsKeepNamed = (p : Project) (buffer : ℕ) (s : State) (n : ℕ) (line : Text) → IsNamed s → IsNamed (step p buffer s n line).state

abbrev pub BeginningIsSound : Type 0
BeginningIsSound = (p : Project) → IsSound p beginning

-- whatever the bytes of the line
abbrev pub StepsKeepSound : Type 0
StepsKeepSound = (p : Project) → SaysSoundly p → (buffer : ℕ) (s : State) (n : ℕ) (line : Text) → IsSound p s → IsSound p (step p buffer s n line).state

-- the records of a sound state are sound: those that are confirmed, and those that are seen
abbrev pub RecordsAreSound : Type 0
RecordsAreSound = (p : Project) (s : State) → IsSound p s → AreSound (is_object p.defs) (base p s) × AreSound (is_object p.defs) (view p s)
