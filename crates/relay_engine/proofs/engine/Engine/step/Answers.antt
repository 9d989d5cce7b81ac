-- What is kept is what the engine keeps that answers lines; the laws hold at each call that has stepped.
use Rattle.std.proofs.Common.{Result, Ok, Err, subst, IfOk}
use Rattle.std.proofs.lemmas.Result.{IfOk-weaker}
use Rattle.line_engine.specs.plan_project.Projects.{IsAcceptedProject}
use Rattle.line_engine.specs.Kept.{Kept}
use Rattle.line_engine.specs.Steps.{HasStepped}
use Rattle.line_engine.specs.Sweeping.{HasHandleKeys}
use Rattle.line_engine.specs.relay_machine.Machine.{step}
use Rattle.plan_ir.specs.store_model.Events.{line_of}
use Rattle.relay_engine.proofs.LaterLaws.{later_lines}
use Rattle.relay_engine.proofs.RetainedLaws.{layered_reads, retained_reads}
use Rattle.relay_engine.proofs.engine.Engine.step.Goals as goal
use Rattle.relay_engine.specs.LaterLines.{KeepsLaterLines}
use Rattle.relay_engine.specs.RetainedReads.{KeepsLayeredReads, KeepsRetainedReads}

pub returns-clause-step : goal.returns-clause-step
returns-clause-step g c =
    subst (λ (k : Kept). IfOk c.step.result (λ lines. HasStepped k c.step.new.self lines (λ p s. step p k.buffer s c.args.n c.args.line.now)))
    c.self.view_is c.step.ensures.step

pub returns-clause-later : goal.returns-clause-later
returns-clause-later g c =
    let old : Kept = c.args.self.now in
    IfOk-weaker c.step.result (λ lines. HasStepped old c.step.new.self lines (λ p s. step p old.buffer s c.args.n c.args.line.now))
    (λ lines. KeepsLaterLines old c.step.new.self c.args.n (line_of c.args.line.now) lines) (λ lines stepped. later_lines old c.step.new.self c.args.n (line_of c.args.line.now) lines stepped)
    (returns-clause-step g c)

pub returns-clause-retained : goal.returns-clause-retained
returns-clause-retained g c =
    let old : Kept = c.args.self.now in
    let accepted : IsAcceptedProject old.defs old.documents = subst (λ (k : Kept). IsAcceptedProject k.defs k.documents) c.self.view_is c.is_accepted.ensures in
    IfOk-weaker c.step.result (λ lines. HasStepped old c.step.new.self lines (λ p s. step p old.buffer s c.args.n c.args.line.now))
    (λ lines. KeepsRetainedReads old c.step.new.self (line_of c.args.line.now))
    (λ lines stepped. retained_reads old c.step.new.self c.args.n (line_of c.args.line.now) lines accepted stepped) (returns-clause-step g c)

both_ok : {T E : Type 0} (r : Result T E) (P Q : T → Type 0) → IfOk r P → IfOk r Q → IfOk r (λ x. P x × Q x)
both_ok (Ok x) P Q p q = (p, q)
both_ok (Err x) P Q p q = tt

pub returns-clause-layered : goal.returns-clause-layered
returns-clause-layered g c =
    let old : Kept = c.args.self.now in
    let line = line_of c.args.line.now in
    let accepted : IsAcceptedProject old.defs old.documents = subst (λ (k : Kept). IsAcceptedProject k.defs k.documents) c.self.view_is c.is_accepted.ensures in
    let keys : IfOk c.step.result (λ lines. HasHandleKeys old line) = subst (λ (k : Kept). IfOk c.step.result (λ lines. HasHandleKeys k line)) c.self.view_is c.step.ensures.keys in
    IfOk-weaker c.step.result (λ lines. HasStepped old c.step.new.self lines (λ p s. step p old.buffer s c.args.n c.args.line.now) × HasHandleKeys old line)
    (λ lines. KeepsLayeredReads old c.step.new.self line)
    (λ lines both. layered_reads old c.step.new.self c.args.n line lines accepted both.0 both.1)
    (both_ok c.step.result (λ lines. HasStepped old c.step.new.self lines (λ p s. step p old.buffer s c.args.n c.args.line.now)) (λ lines. HasHandleKeys old line) (returns-clause-step g c) keys)
