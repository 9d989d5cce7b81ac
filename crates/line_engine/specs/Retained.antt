-- What is made of an operation that is to be retained.
use Rattle.std.specs.Prelude.{◌≡◌, ℕ, codes}
use Rattle.line_engine.specs.Handles.{held_as}
use Rattle.line_engine.specs.Kept.{Kept}
use Rattle.line_engine.specs.Operations.{HoldsPlan}
use Rattle.line_engine.specs.Stands.{KeepsHandle}
use Rattle.line_engine.specs.Steps.{IsStep}
use Rattle.line_engine.specs.declared.retaining.Prepared.{Prepared}
use Rattle.line_engine.specs.declared.retaining.Prepared.TheVariants as P
use Rattle.relay_machine.specs.Machine.{Handle, Project, State, Step, accept, with_handle}
use Rattle.relay_machine.specs.Printed.{event_line}
use Rattle.plan_ir.specs.schema_tables.Types.{Text}

-- what is held is an operation of the project, with its plan
abbrev pub IsThere : Kept → Prepared → Type 0
IsThere k (P.Held held) = HoldsPlan k.defs k.documents held
IsThere k (P.Refused lines) = Unit {0}

-- under each name the step starts a handle of what is held, or the lines are the step's and nothing changes
abbrev pub IsPrepared : Kept → Project → State → ℕ → (step : (name : Text) → Step) → Prepared → Type 0
IsPrepared k p s n step (P.Held held) =
    (name : Text) → (h : Handle) × (step name ≡ accept (event_line (codes "retain") n) (with_handle h s)) × KeepsHandle p (held_as name held) h
IsPrepared k p s n step (P.Refused lines) = (name : Text) → IsStep p (step name) lines k
