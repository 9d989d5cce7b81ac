-- What the laws of later lines say of an engine: what a sweep drops makes no difference to a line that does not look at it.
use Rattle.std.specs.Prelude.{◌≡◌, ℕ, Bool, true, false, [], ◌++◌, length}
use Rattle.std.specs.List.{AllByRecursion}
use Rattle.later_lines.specs.Alike.{AreAlike}
use Rattle.later_lines.specs.Looked.{looked}
use Rattle.line_engine.specs.Kept.{Kept}
use Rattle.line_engine.specs.Stands.{StandsFor}
use Rattle.line_engine.specs.Steps.{written}
use Rattle.line_engine.specs.declared.lines.Lines.{Lines}
use Rattle.line_engine.specs.relay_machine.Effects.{sweeps}
use Rattle.line_engine.specs.relay_machine.Machine.{Project, State, Step, base, dropped_ids, is_held, layer_entries, notices_of, retained, step_line, swept_state, view}
use Rattle.line_engine.specs.relay_machine.Printed.{collect_line}
use Rattle.plan_ir.specs.gql_plain.Order.{has_text}
use Rattle.plan_ir.specs.schema_tables.Types.{Text}
use Rattle.plan_ir.specs.store_model.Events.{Line}

-- the lines are those of a step from another state, and the engine stands for a state that is like the one after that step, but for some ids
pub record GoesAlike (p : Project) (D : Text → Bool) (step : Step) (lines : Lines) (new : Kept) : Type 0 where
  pub text : written lines.texts.items ≡ step.text
  pub refused : lines.refused ≡ step.refused
  pub stands : (u : State) × StandsFor new p u × AreAlike p D u step.state

-- the lines and those of the step differ at most in the number of dropped ids, and the records are the same
pub record MeetsStep (p : Project) (n : ℕ) (dropped_here dropped_there : ℕ) (step : Step) (lines : Lines) (new : Kept) : Type 0 where
  pub texts : (notices : Text) × (written lines.texts.items ≡ collect_line n dropped_here ++ notices) × (step.text ≡ collect_line n dropped_there ++ notices)
  pub refused : lines.refused ≡ step.refused
  pub base : new.layers.base ≡ base p step.state

-- whichever state the engine stood for
pub record KeepsLaterLines (old new : Kept) (n : ℕ) (line : Line) (lines : Lines) : Type 0 where
  -- a line that looks at none of some ids is answered as from any state that is alike but for these
  pub alike : (p : Project) (s : State) → StandsFor old p s → (D : Text → Bool) (t : State) → AreAlike p D s t → sweeps line ≡ false
      → AllByRecursion (λ id. D id ≡ false) (looked p old.buffer s n line) → GoesAlike p D (step_line p old.buffer t n line) lines new
  -- a line that sweeps changes the records at the dropped ids alone, and where it gives no notice nothing else
  pub leaves : (p : Project) (s : State) → StandsFor old p s → sweeps line ≡ true → AreAlike p (has_text (dropped_ids p old.buffer s)) s (swept_state old.buffer s)
  pub quiet : (p : Project) (s : State) → StandsFor old p s → sweeps line ≡ true → notices_of p (view p (swept_state old.buffer s)) n s.watches ≡ []
      → StandsFor new p (swept_state old.buffer s)
  -- states that are alike meet again in a line that sweeps, where the retained operations reach none of the ids, and the live layers lead to none
  pub meets : (p : Project) (s : State) → StandsFor old p s → (D : Text → Bool) (t : State) → AreAlike p D s t → sweeps line ≡ true
      → ((id : Text) → D id ≡ true → is_held p (retained old.buffer s) (layer_entries s) (base p s) id ≡ false)
      → MeetsStep p n (length (dropped_ids p old.buffer s)) (length (dropped_ids p old.buffer t)) (step_line p old.buffer t n line) lines new
