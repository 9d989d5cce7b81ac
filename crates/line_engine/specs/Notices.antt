-- Notices after an answer, as the machine sees them.
use Rattle.std.specs.Prelude.{◌≡◌, ℕ, false, List, [], ◌∷◌, ◌++◌, cond, map, slice_index_or}
use Rattle.line_engine.specs.Answered.{AreLines}
use Rattle.line_engine.specs.Kept.{Kept, with_layers}
use Rattle.line_engine.specs.Stands.{StandsUntold}
use Rattle.line_engine.specs.declared.lines.Lines.{Lines}
use Rattle.relay_machine.specs.Machine.{Project, State, Step}
use Rattle.relay_machine.specs.Printed.{notice_line}
use Rattle.plan_ir.specs.schema_tables.Types.{Text}
use Rattle.store_layers.specs.Layered.{Layered}
use Rattle.store_watch.specs.Watching.{Telling, Watch}

abbrev pub names_of : List Watch → List Text
names_of ws = map (λ (w : Watch). w.name) ws

-- the line of a notice, where it is told and the watches have these names
abbrev pub line_of : (names : List Text) → ℕ → Telling → Text
line_of names n t = cond t.told (notice_line n (slice_index_or names t.place []) t.gives) []

-- the lines of those that are told
abbrev pub told_lines : (names : List Text) → ℕ → List Telling → Text
told_lines names n [] = []
told_lines names n (t ∷ ts) = line_of names n t ++ told_lines names n ts

-- a step that changes the records alone: its answer is given, and with these layers the engine stands for the state after it, its watches untold
pub record HasAnswered (old : Kept) (layers : Layered) (p : Project) (s : State) (step : Step) (lines : Lines) : Type 0 where
  pub answer : AreLines step.text false lines
  pub accepted : step.refused ≡ false
  pub watches : step.state.watches ≡ s.watches
  pub stands : StandsUntold (with_layers old layers) p step.state
