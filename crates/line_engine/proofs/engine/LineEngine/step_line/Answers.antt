-- What is kept is the same as the parts that are read.
use Rattle.std.proofs.Common.{true≢false, sym, subst, ◌∙◌, IfOk}
use Rattle.std.proofs.lemmas.Result.{IfOk-weaker}
use Rattle.line_engine.proofs.KeepingLaws.{kept_of}
use Rattle.line_engine.proofs.WorkLaws.{none_reverted}
use Rattle.line_engine.proofs.engine.LineEngine.step_line.Goals as goal
use Rattle.line_engine.specs.Answered.{IsFaultOf, IsOfNoSweep}
use Rattle.line_engine.specs.Kept.{Kept}
use Rattle.line_engine.specs.Spares.{Spares}
use Rattle.line_engine.specs.Steps.{HasStepped}
use Rattle.line_engine.specs.Sweeping.{HasHandleKeys}
use Rattle.line_engine.specs.Work.{AppliesAbove, IsWithinWork}
use Rattle.relay_machine.specs.Machine.{step, step_line}
use Rattle.plan_ir.specs.store_model.Events.{line_of}

pub returns-in-Ok-clause-step : goal.returns-in-Ok-clause-step
returns-in-Ok-clause-step g c =
    let inside = c.self.inside in
    let made : Kept = kept_of inside.project inside.layers inside.retained inside.watches in
    subst (λ (k : Kept). IfOk c.step_event.result (λ lines. HasStepped k c.step_event.new.self lines (λ p s. step p k.buffer s c.args.n c.args.line.now))) c.self.view_is
    (subst (λ l. IfOk c.step_event.result (λ lines. HasStepped made c.step_event.new.self lines (λ p s. step_line p made.buffer s c.args.n l))) (sym c.in-Ok.ensures) c.step_event.ensures.step)

pub returns-in-Ok-clause-spares : goal.returns-in-Ok-clause-spares
returns-in-Ok-clause-spares g c = subst (λ (k : Kept). Spares k c.step_event.new.self c.step_event.result) c.self.view_is c.step_event.ensures.spares

pub returns-in-Ok-clause-keys : goal.returns-in-Ok-clause-keys
returns-in-Ok-clause-keys g c =
    let inside = c.self.inside in
    let made : Kept = kept_of inside.project inside.layers inside.retained inside.watches in
    subst (λ (k : Kept). IfOk c.step_event.result (λ lines. HasHandleKeys k (line_of c.args.line.now))) c.self.view_is
    (subst (λ l. IfOk c.step_event.result (λ lines. HasHandleKeys made l)) (sym c.in-Ok.ensures) c.step_event.ensures.keys)

pub returns-in-Ok-clause-exact : goal.returns-in-Ok-clause-exact
returns-in-Ok-clause-exact g c =
    let inside = c.self.inside in
    let made : Kept = kept_of inside.project inside.layers inside.retained inside.watches in
    let before = g.S.Count.Steps.applies c.args.steps.now in
    let after = g.S.Count.Steps.applies c.step_event.new.steps in
    subst (λ (k : Kept). IfOk c.step_event.result (λ lines. AppliesAbove k (line_of c.args.line.now) lines.refused before after)) c.self.view_is
    (subst (λ l. IfOk c.step_event.result (λ lines. AppliesAbove made l lines.refused before after)) (sym c.in-Ok.ensures) c.step_event.ensures.exact)

pub returns-in-Ok-clause-looks : goal.returns-in-Ok-clause-looks
returns-in-Ok-clause-looks g c =
    let inside = c.self.inside in
    let made : Kept = kept_of inside.project inside.layers inside.retained inside.watches in
    let before = g.S.Count.Steps.looks c.args.steps.now in
    let after = g.S.Count.Steps.looks c.step_event.new.steps in
    subst (λ (k : Kept). IsWithinWork k c.args.n (line_of c.args.line.now) before after) c.self.view_is
    (subst (λ l. IsWithinWork made c.args.n l before after) (sym c.in-Ok.ensures) c.step_event.ensures.looks)

pub returns-in-Err-clause-step : goal.returns-in-Err-clause-step
returns-in-Err-clause-step g c =
    let old : Kept = c.args.self.now in
    let inside = c.self.inside in
    let made : Kept = kept_of inside.project inside.layers inside.retained inside.watches in
    let line = c.args.line.now in
    IfOk-weaker c.refuse_fault.result (IsFaultOf c.args.n c.in-Err.fault) (λ lines. HasStepped old made lines (λ p s. step p old.buffer s c.args.n line))
    (λ lines is. subst (λ k. HasStepped old k lines (λ p s. step p old.buffer s c.args.n line)) (sym c.self.view_is) (is (line_of line) c.in-Err.ensures old)) c.refuse_fault.ensures.fault

pub returns-in-Err-clause-keys : goal.returns-in-Err-clause-keys
returns-in-Err-clause-keys g c =
    let line = line_of c.args.line.now in
    IfOk-weaker c.refuse_fault.result (λ lines. IsOfNoSweep c.in-Err.fault) (λ lines. HasHandleKeys c.args.self.now line)
    (λ lines quiet sweeping. absurd (true≢false (sym sweeping ∙ quiet line c.in-Err.ensures))) c.refuse_fault.ensures.quiet

pub returns-in-Err-clause-exact : goal.returns-in-Err-clause-exact
returns-in-Err-clause-exact g c =
    none_reverted c.refuse_fault.result c.args.self.now (line_of c.args.line.now) (g.S.Count.Steps.applies c.args.steps.now) (g.S.Count.Steps.applies c.args.steps.now)
    c.refuse_fault.ensures.refused
