-- What is sound of accepted projects: what responses say to their operations, and each state of the machine.
use Rattle.std.specs.Prelude.{ℕ, ◌+◌, List, [], ◌∷◌}
use Rattle.plan_ir.specs.schema_rules.Rules.{is_object}
use Rattle.plan_ir.specs.schema_tables.Types.{Text}
use Rattle.plan_project.specs.Projects.{IsAcceptedProject}
use Rattle.relay_machine.specs.Machine.{Project, State, base, beginning, step, view}
use Rattle.sound_states.specs.sound_records.Sound.{AreSound}
use Rattle.sound_states.specs.Says.{SaysSoundly}
use Rattle.sound_states.specs.Sound.{IsSound}

abbrev pub AcceptedSaySoundly : Type 0
AcceptedSaySoundly = (p : Project) → IsAcceptedProject p.defs p.documents → SaysSoundly p

-- whatever the bytes of the line
abbrev pub AcceptedStepsKeepSound : Type 0
AcceptedStepsKeepSound = (p : Project) → IsAcceptedProject p.defs p.documents → (buffer : ℕ) (s : State) (n : ℕ) (line : Text) → IsSound p s → IsSound p (step p buffer s n line).state

-- the state after lines, numbered from n
abbrev pub state_after : Project → (buffer : ℕ) → State → ℕ → List Text → State
state_after p buffer s n [] = s
state_after p buffer s n (line ∷ lines) = state_after p buffer (step p buffer s n line).state (n + 1) lines

-- a sound state, and its records
pub record IsWhollySound (p : Project) (s : State) : Type 0 where
  pub state : IsSound p s
  pub confirmed : AreSound (is_object p.defs) (base p s)
  pub seen : AreSound (is_object p.defs) (view p s)

-- from the beginning on, whatever the bytes of the lines
abbrev pub AcceptedStatesAreSound : Type 0
AcceptedStatesAreSound = (p : Project) → IsAcceptedProject p.defs p.documents → (buffer : ℕ) (lines : List Text) → IsWhollySound p (state_after p buffer beginning 1 lines)
