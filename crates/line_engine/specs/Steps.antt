-- When an engine has taken a step of the machine.
use Rattle.std.specs.Prelude.{◌≡◌, false, List, [], ◌∷◌, ◌++◌, ◌==◌}
use Rattle.std.specs.List.{AllByRecursion}
use Rattle.line_engine.specs.Kept.{Kept}
use Rattle.line_engine.specs.Stands.{StandsFor}
use Rattle.line_engine.specs.declared.lines.Lines.{Lines}
use Rattle.relay_machine.specs.Machine.{Project, State, Step}
use Rattle.relay_machine.specs.Script.{lines_of}
use Rattle.plan_ir.specs.schema_tables.Types.{Text}

-- texts as lines, each ended by LF
abbrev pub written : List Text → Text
written [] = []
written (t ∷ ts) = (t ++ 10 ∷ []) ++ written ts

-- a text has no LF
abbrev pub IsOneLine : Text → Type 0
IsOneLine text = AllByRecursion (λ b. (b == 10) ≡ false) text

abbrev pub AreSingle : List Text → Type 0
AreSingle texts = AllByRecursion IsOneLine texts

-- the answer is the step's, each of its texts is one line, and the engine stands for the state after it
pub record IsStep (p : Project) (step : Step) (lines : Lines) (new : Kept) : Type 0 where
  pub text : written lines.texts.items ≡ step.text
  pub single : AreSingle lines.texts.items
  pub refused : lines.refused ≡ step.refused
  pub stands : StandsFor new p step.state

-- whichever state the engine stood for, this step was taken
abbrev pub HasStepped : Kept → Kept → Lines → (Project → State → Step) → Type 0
HasStepped old new lines step = (p : Project) (s : State) → StandsFor old p s → IsStep p (step p s) lines new

-- whichever state the engine stood for, the texts are the lines that this step prints, in their order
abbrev pub HasPrinted : Kept → Lines → (Project → State → Step) → Type 0
HasPrinted old lines step = (p : Project) (s : State) → StandsFor old p s → lines.texts.items ≡ lines_of (step p s).text false
