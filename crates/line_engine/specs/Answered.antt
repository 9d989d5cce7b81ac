-- What the parts of an event give, as the machine sees it.
use Rattle.std.specs.Prelude.{◌≡◌, ℕ, Bool, true, false, Option, Some, None, Err}
use Rattle.event_script.specs.Seen.{Says}
use Rattle.event_script.specs.declared.fault.LineFault.{LineFault}
use Rattle.line_engine.specs.Kept.{Kept}
use Rattle.line_engine.specs.Steps.{AreSingle, HasStepped, IsStep, written}
use Rattle.line_engine.specs.declared.lines.Lines.{Lines}
use Rattle.line_engine.specs.declared.taking.Taken.{Taken}
use Rattle.line_engine.specs.declared.taking.Taken.TheVariants as T
use Rattle.relay_machine.specs.Effects.{sweeps}
use Rattle.relay_machine.specs.Machine.{Project, Step, step_line}
use Rattle.relay_machine.specs.Printed.{refusal_line}
use Rattle.relay_machine.specs.Refusals.{variables}
use Rattle.plan_ir.specs.schema_tables.Types.{Text}
use Rattle.plan_ir.specs.schema_types.Environments.{Failure}
use Rattle.schema_values.specs.Failures.{Tells}
use Rattle.schema_values.specs.declared.fault.VarFault.{VarFault}
use Rattle.plan_ir.specs.store_model.Events.{Line}
use Rattle.plan_ir.specs.store_model.declared.entry.Entry.{Entry}

-- the lines are this text, each of them a text of its own, and refused or not
pub record AreLines (what : Text) (whether : Bool) (lines : Lines) : Type 0 where
  pub text : written lines.texts.items ≡ what
  pub single : AreSingle lines.texts.items
  pub refused : lines.refused ≡ whether

-- the lines refuse values of variables, for the failure that was found
abbrev pub IsRefusalOf : ℕ → VarFault → Lines → Type 0
IsRefusalOf n fault lines = (found : Option Failure) → Tells found fault → (f : Failure) × (found ≡ Some f) × AreLines (refusal_line n (variables f)) true lines

-- the lines refuse a line that gives no event for this fault
abbrev pub IsFaultOf : ℕ → LineFault → Lines → Type 0
IsFaultOf n fault lines = (line : Line) → Says (Err fault) line → (k : Kept) → HasStepped k k lines (λ p s. step_line p k.buffer s n line)

-- no line that gives no event for this fault sweeps
abbrev pub IsOfNoSweep : LineFault → Type 0
IsOfNoSweep fault = (line : Line) → Says (Err fault) line → sweeps line ≡ false

-- the step is what is made of the entry, or the lines are the step's and nothing changes
abbrev pub Gives : Kept → Project → Step → (take : Entry → Step) → Taken → Type 0
Gives k p step take (T.Entry e) = step ≡ take e
Gives k p step take (T.Refused lines) = IsStep p step lines k

-- the step is the one that follows, or the lines are the step's and nothing changes
abbrev pub Precedes : Kept → Project → (step next : Step) → Option Lines → Type 0
Precedes k p step next None = step ≡ next
Precedes k p step next (Some lines) = IsStep p step lines k
