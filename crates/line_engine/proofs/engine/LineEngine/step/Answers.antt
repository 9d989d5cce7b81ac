-- Each clause is the one of the line, where what is kept is the same with the watches that are prepared.
use Rattle.std.proofs.Common.{◌≡◌, true, ap, subst, ◌∙◌, IfOk, OnErr}
use Rattle.std.proofs.lemmas.Result.{IfOk-weaker}
use Rattle.line_engine.proofs.KeepingLaws.{kept_of}
use Rattle.line_engine.proofs.NamedLaws.{kept_named}
use Rattle.line_engine.proofs.OneLines.{has_printed}
use Rattle.line_engine.proofs.engine.LineEngine.step.Goals as goal
use Rattle.line_engine.specs.Kept.{Kept}
use Rattle.line_engine.specs.Named.{StaysNamed}
use Rattle.line_engine.specs.Steps.{HasPrinted, HasStepped}
use Rattle.line_engine.specs.Sweeping.{HasHandleKeys}
use Rattle.line_engine.specs.Work.{AppliesAbove, IsWithinWork}
use Rattle.relay_machine.specs.Machine.{step}
use Rattle.plan_ir.specs.store_model.Events.{line_of}
use Rattle.sound_states.proofs.NamedSteps.{steps_named}
use Rattle.sound_states.specs.Named.{IsNamed}

pub returns-clause-step : goal.returns-clause-step
returns-clause-step g c =
    subst (λ (k : Kept). IfOk c.step_line.result (λ lines. HasStepped k c.step_line.new.self lines (λ p s. step p k.buffer s c.args.n c.args.line.now)))
    (ap (kept_of c.self.inside.project c.self.inside.layers c.self.inside.retained) c.refresh.ensures ∙ c.self.view_is) c.step_line.ensures.step

pub returns-clause-buffer : goal.returns-clause-buffer
returns-clause-buffer g c = c.step_line.ensures.spares.buffer ∙ ap (λ (k : Kept). k.buffer) c.self.view_is

pub returns-clause-refused : goal.returns-clause-refused
returns-clause-refused g c =
    subst (λ (k : Kept). IfOk c.step_line.result (λ lines. lines.refused ≡ true → c.step_line.new.self ≡ k))
    (ap (kept_of c.self.inside.project c.self.inside.layers c.self.inside.retained) c.refresh.ensures ∙ c.self.view_is) c.step_line.ensures.spares.refused

pub returns-clause-err : goal.returns-clause-err
returns-clause-err g c =
    subst (λ (k : Kept). OnErr c.step_line.result (c.step_line.new.self ≡ k))
    (ap (kept_of c.self.inside.project c.self.inside.layers c.self.inside.retained) c.refresh.ensures ∙ c.self.view_is) c.step_line.ensures.spares.err

pub returns-clause-exact : goal.returns-clause-exact
returns-clause-exact g c =
    subst (λ (k : Kept). IfOk c.step_line.result (λ lines. AppliesAbove k (line_of c.args.line.now) lines.refused (g.S.Count.Steps.applies c.args.steps.now) (g.S.Count.Steps.applies c.step_line.new.steps)))
    (ap (kept_of c.self.inside.project c.self.inside.layers c.self.inside.retained) c.refresh.ensures ∙ c.self.view_is) c.step_line.ensures.exact

pub returns-clause-looks : goal.returns-clause-looks
returns-clause-looks g c =
    subst (λ (k : Kept). IsWithinWork k c.args.n (line_of c.args.line.now) (g.S.Count.Steps.looks c.args.steps.now) (g.S.Count.Steps.looks c.step_line.new.steps))
    (ap (kept_of c.self.inside.project c.self.inside.layers c.self.inside.retained) c.refresh.ensures ∙ c.self.view_is) c.step_line.ensures.looks

pub returns-clause-lines : goal.returns-clause-lines
returns-clause-lines g c =
    let old : Kept = c.args.self.now in
    IfOk-weaker c.step_line.result (λ lines. HasStepped old c.step_line.new.self lines (λ p s. step p old.buffer s c.args.n c.args.line.now))
    (λ lines. HasPrinted old lines (λ p s. step p old.buffer s c.args.n c.args.line.now))
    (λ lines stepped. has_printed old c.step_line.new.self lines (λ p s. step p old.buffer s c.args.n c.args.line.now) stepped) (returns-clause-step g c)

pub returns-clause-named : goal.returns-clause-named
returns-clause-named g c =
    let old : Kept = c.args.self.now in
    let new : Kept = c.step_line.new.self in
    let n = c.args.n in
    let line = c.args.line.now in
    IfOk-weaker c.step_line.result (λ lines. HasStepped old new lines (λ p s. step p old.buffer s n line)) (λ lines. StaysNamed old new n line)
    (λ lines stepped p s stands named.
    let after : IsNamed (step p old.buffer s n line).state = steps_named p old.buffer s n line named in
    (after, kept_named new p (step p old.buffer s n line).state (stepped p s stands).stands after)) (returns-clause-step g c)

pub returns-clause-keys : goal.returns-clause-keys
returns-clause-keys g c =
    subst (λ (k : Kept). IfOk c.step_line.result (λ lines. HasHandleKeys k (line_of c.args.line.now)))
    (ap (kept_of c.self.inside.project c.self.inside.layers c.self.inside.retained) c.refresh.ensures ∙ c.self.view_is) c.step_line.ensures.keys
