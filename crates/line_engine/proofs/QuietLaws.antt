-- Steps after which nothing is told: no record changes.
use Rattle.std.proofs.Common.{◌≡◌, ℕ, Bool, true, false, cond, ◌++◌, length, map, take, drop, Result, append-nil, refl, sym, ap, subst, ◌∙◌}
use Rattle.std.proofs.lemmas.Result.{IfOk-weaker}
use Rattle.std.specs.Result.{IfOk}
use Rattle.line_engine.proofs.NoticeLaws.{all_stay, none_told}
use Rattle.line_engine.proofs.StandingLaws.{view_is}
use Rattle.line_engine.specs.Kept.{Kept}
use Rattle.line_engine.specs.Stands.{StandsFor}
use Rattle.line_engine.specs.Steps.{HasStepped, IsStep}
use Rattle.line_engine.specs.declared.lines.Lines.{Lines}
use Rattle.relay_machine.specs.Machine.{Project, State, Step, notices_of, noticed, read_again, view, with_notices, with_watches}
use Rattle.store_watch.specs.store_read.Reading.{slots}
use Rattle.store_watch.specs.Watching.{AreShown}

both_same : {X : Type 0} (b : Bool) (x : X) → cond b x x ≡ x
both_same true x = refl
both_same false x = refl

module _ (k : Kept) (p : Project) (n e : ℕ) (step : Step) (stands : StandsFor k p step.state) where
  shown : AreShown (slots (view p step.state)) k.watches
  shown = subst (λ m. AreShown (slots m) k.watches) (view_is k.layers p step.state stands.base stands.layers) stands.shown

  text_is : step.text ++ notices_of p (view p step.state) n (take e step.state.watches) ≡ step.text
  text_is = ap (λ t. step.text ++ t) (none_told p (view p step.state) n e k.watches step.state.watches stands.watches shown) ∙ append-nil step.text

  watches_are : map (read_again p (view p step.state)) (take e step.state.watches) ++ drop e step.state.watches ≡ step.state.watches
  watches_are = all_stay p (view p step.state) e k.watches step.state.watches stands.watches shown

  nothing_told : with_notices p n e step ≡ step
  nothing_told = λ i. record { text = text_is i; refused = step.refused; state = with_watches (watches_are i) step.state }

  -- where an engine stands for the state after a step, no watch has changed
  pub is_quiet : noticed p n e step ≡ step
  is_quiet = ap (cond step.refused step) nothing_told ∙ both_same step.refused step

pub quiet : (k : Kept) (p : Project) (n e : ℕ) (step : Step) (lines : Lines) → IsStep p step lines k → IsStep p (noticed p n e step) lines k
quiet k p n e step lines is = subst (λ t. IsStep p t lines k) (sym (is_quiet k p n e step is.stands)) is

pub stepped_quietly : (old new : Kept) (n : ℕ) (lines : Lines) (step : Project → State → Step) → HasStepped old new lines step
    → HasStepped old new lines (λ p s. noticed p n (length s.watches) (step p s))
stepped_quietly old new n lines step has p s stands = quiet new p n (length s.watches) (step p s) lines (has p s stands)

pub on_quiet : {E : Type 0} (r : Result Lines E) (old new : Kept) (n : ℕ) (step : Project → State → Step) → IfOk r (λ lines. HasStepped old new lines step)
    → IfOk r (λ lines. HasStepped old new lines (λ p s. noticed p n (length s.watches) (step p s)))
on_quiet r old new n step h =
    IfOk-weaker r (λ lines. HasStepped old new lines step) (λ lines. HasStepped old new lines (λ p s. noticed p n (length s.watches) (step p s)))
    (λ lines has. stepped_quietly old new n lines step has) h
