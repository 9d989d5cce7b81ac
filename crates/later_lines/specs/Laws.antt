-- The laws of later lines: what a sweep drops makes no difference to a line that does not look at it. They need no accepted project.
use Rattle.std.specs.Prelude.{◌≡◌, ℕ, Bool, true, false, [], ◌++◌, length}
use Rattle.std.specs.List.{AllByRecursion}
use Rattle.plan_ir.specs.gql_plain.Order.{has_text}
use Rattle.later_lines.specs.Alike.{AreAlike, StepsAlike}
use Rattle.later_lines.specs.Looked.{looked}
use Rattle.relay_machine.specs.Effects.{sweeps}
use Rattle.relay_machine.specs.Machine.{Project, State, Step, base, dropped_ids, is_held, layer_entries, notices_of, retained, step_line, swept_state, view}
use Rattle.relay_machine.specs.Printed.{collect_line}
use Rattle.plan_ir.specs.schema_tables.Types.{Text}
use Rattle.plan_ir.specs.store_model.Events as e
use Rattle.plan_ir.specs.store_model.Events.{Line}

-- a line that does not sweep, and looks at none of the ids from the one state: both states write the same, and stay alike
abbrev pub LinesStayAlike : Type 0
LinesStayAlike = (p : Project) (buffer : ℕ) (D : Text → Bool) (s t : State) (n : ℕ) (line : Line) → AreAlike p D s t → sweeps line ≡ false
    → AllByRecursion (λ id. D id ≡ false) (looked p buffer s n line) → StepsAlike p D (step_line p buffer s n line) (step_line p buffer t n line)

-- a state, and the same with a sweep added, are alike but for the dropped ids
abbrev pub SweepsLeaveAlike : Type 0
SweepsLeaveAlike = (p : Project) (buffer : ℕ) (s : State) → AreAlike p (has_text (dropped_ids p buffer s)) s (swept_state buffer s)

-- where a line that sweeps gives no notice, the latter is the state after it
abbrev pub QuietSweepsAddNothing : Type 0
QuietSweepsAddNothing = (p : Project) (buffer : ℕ) (s : State) (n : ℕ)
    → notices_of p (view p (swept_state buffer s)) n s.watches ≡ [] → (step_line p buffer s n (e.event e.collect)).state ≡ swept_state buffer s

-- two answers of sweeps that differ at most in the number of dropped ids, the same notices, and the same records
pub record MeetAgain (p : Project) (n : ℕ) (dropped_one dropped_other : ℕ) (a b : Step) : Type 0 where
  pub texts : (notices : Text) × (a.text ≡ collect_line n dropped_one ++ notices) × (b.text ≡ collect_line n dropped_other ++ notices)
  pub refused : a.refused ≡ b.refused
  pub bases : base p a.state ≡ base p b.state
  pub states : AreAlike p (λ id. false) a.state b.state

-- alike states meet again in a line that sweeps, where in the one base the retained operations reach none of the ids, and the live layers lead to none
abbrev pub SweepsMeet : Type 0
SweepsMeet = (p : Project) (buffer : ℕ) (D : Text → Bool) (s t : State) (n : ℕ) → AreAlike p D s t
    → ((id : Text) → D id ≡ true → is_held p (retained buffer s) (layer_entries s) (base p s) id ≡ false)
    → MeetAgain p n (length (dropped_ids p buffer s)) (length (dropped_ids p buffer t)) (step_line p buffer s n (e.event e.collect)) (step_line p buffer t n (e.event e.collect))
