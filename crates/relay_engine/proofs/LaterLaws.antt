-- The laws of later lines at a call that has stepped.
use Rattle.std.proofs.Common.{◌≡◌, ℕ, true, true≢false, length, refl, ap, sym, ◌∙◌, subst}
use Rattle.later_lines.proofs.AlikeSteps.{lines_alike}
use Rattle.later_lines.proofs.Sweeping.{quiet_sweeps, sweeps_alike, sweeps_meet_again}
use Rattle.line_engine.specs.Kept.{Kept}
use Rattle.line_engine.specs.Stands.{StandsFor}
use Rattle.line_engine.specs.Steps.{HasStepped, IsStep}
use Rattle.line_engine.specs.declared.lines.Lines.{Lines}
use Rattle.line_engine.specs.relay_machine.Effects.{sweeps}
use Rattle.line_engine.specs.relay_machine.Machine.{dropped_ids, step_line, swept_state}
use Rattle.plan_ir.specs.store_model.Events as e
use Rattle.plan_ir.specs.store_model.Events.{Event, Line}
use Rattle.relay_engine.specs.LaterLines.{KeepsLaterLines, MeetsStep}

-- an event that sweeps is a collect
is_collect : (event : Event) → sweeps (e.event event) ≡ true → event ≡ e.collect
is_collect (e.retain handle op given) h = absurd (true≢false (sym h))
is_collect (e.release handle) h = absurd (true≢false (sym h))
is_collect (e.payload answer commands) h = absurd (true≢false (sym h))
is_collect (e.update commands) h = absurd (true≢false (sym h))
is_collect (e.begin layer answer commands) h = absurd (true≢false (sym h))
is_collect (e.finish layer answer commands) h = absurd (true≢false (sym h))
is_collect (e.revert layer) h = absurd (true≢false (sym h))
is_collect (e.read target) h = absurd (true≢false (sym h))
is_collect (e.watch name target) h = absurd (true≢false (sym h))
is_collect (e.unwatch name) h = absurd (true≢false (sym h))
is_collect e.collect h = refl

-- so is a line
pub is_sweep : (line : Line) → sweeps line ≡ true → line ≡ e.event e.collect
is_sweep e.too_long h = absurd (true≢false (sym h))
is_sweep e.not_json h = absurd (true≢false (sym h))
is_sweep e.no_event h = absurd (true≢false (sym h))
is_sweep e.no_commands h = absurd (true≢false (sym h))
is_sweep (e.event event) h = ap e.event (is_collect event h)

-- what is said of a line that sweeps need be shown of a collect alone
pub of_sweep : (P : Line → Type 0) (line : Line) → sweeps line ≡ true → P (e.event e.collect) → P line
of_sweep P line h shown = subst P (sym (is_sweep line h)) shown

pub later_lines : (old new : Kept) (n : ℕ) (line : Line) (lines : Lines) → HasStepped old new lines (λ p s. step_line p old.buffer s n line) → KeepsLaterLines old new n line lines
later_lines old new n line lines stepped = record {
  alike = λ p s stands D t like none clear.
      let taken = stepped p s stands in
      let same = lines_alike p old.buffer D s t n line like none clear in
      record { text = taken.text ∙ same.text; refused = taken.refused ∙ same.refused; stands = ((step_line p old.buffer s n line).state, taken.stands, same.states) };
  leaves = λ p s stands sweeping. sweeps_alike p old.buffer s;
  quiet = λ p s stands sweeping none.
      of_sweep (λ l. StandsFor new p (step_line p old.buffer s n l).state → StandsFor new p (swept_state old.buffer s)) line sweeping
      (subst (StandsFor new p) (quiet_sweeps p old.buffer s n none)) (stepped p s stands).stands;
  meets = λ p s stands D t like sweeping clear.
      of_sweep (λ l. IsStep p (step_line p old.buffer s n l) lines new → MeetsStep p n (length (dropped_ids p old.buffer s)) (length (dropped_ids p old.buffer t)) (step_line p old.buffer t n l) lines new) line sweeping
      (λ taken.
      let met = sweeps_meet_again p old.buffer D s t n like clear in
      record { texts = (met.texts.0, taken.text ∙ met.texts.1, met.texts.2); refused = taken.refused ∙ met.refused; base = taken.stands.base ∙ met.bases }) (stepped p s stands);
}
