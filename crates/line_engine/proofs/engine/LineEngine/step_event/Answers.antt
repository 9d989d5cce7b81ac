use Rattle.std.proofs.Common.{true≢false, sym, ap, subst, ◌∙◌, IfOk}
use Rattle.std.proofs.lemmas.Result.{IfOk-weaker}
use Rattle.std.specs.List.{AllByRecursion}
use Rattle.event_script.specs.Seen.{event_seen, target_seen}
use Rattle.line_engine.proofs.QuietLaws.{on_quiet}
use Rattle.line_engine.proofs.WorkLaws.{is_reverted, not_reverted, not_swept, reverted_by}
use Rattle.line_engine.proofs.engine.LineEngine.step_event.Goals as goal
use Rattle.line_engine.specs.Kept.{Kept}
use Rattle.line_engine.specs.Steps.{HasStepped}
use Rattle.line_engine.specs.Sweeping.{HasHandleKeys}
use Rattle.line_engine.specs.Work.{IsWithinWork}
use Rattle.relay_machine.specs.Effects.{event_sweeps}
use Rattle.relay_machine.specs.Machine.{step_event, step_read, step_release, step_retain, step_unwatch, step_watch}
use Rattle.plan_ir.specs.store_model.Events.{event}
use Rattle.plan_ir.specs.store_model.Said.{HaveHandleKeys}
use Rattle.plan_ir.specs.store_model.declared.entry.Entry.{Entry}
use Rattle.store_layers.specs.Layered.{entries_of}

pub returns-in-Retain-clause-step : goal.returns-in-Retain-clause-step
returns-in-Retain-clause-step g c =
    let k : Kept = c.args.self.now in
    let n = c.args.n in
    let a = c.in-Retain in
    subst (λ e. IfOk c.retain.result (λ lines. HasStepped k c.retain.new.self lines (λ p s. step_event p k.buffer s n (event_seen e)))) (sym a.is)
    (on_quiet c.retain.result k c.retain.new.self n (λ p s. step_retain p s n a.handle a.op a.vars) c.retain.ensures.step)

pub returns-in-Release-clause-step : goal.returns-in-Release-clause-step
returns-in-Release-clause-step g c =
    let k : Kept = c.args.self.now in
    let n = c.args.n in
    let a = c.in-Release in
    subst (λ e. IfOk c.release.result (λ lines. HasStepped k c.release.new.self lines (λ p s. step_event p k.buffer s n (event_seen e)))) (sym a.is)
    (on_quiet c.release.result k c.release.new.self n (λ p s. step_release s n a.handle) c.release.ensures.step)

pub returns-in-Read-clause-step : goal.returns-in-Read-clause-step
returns-in-Read-clause-step g c =
    let k : Kept = c.args.self.now in
    let n = c.args.n in
    let a = c.in-Read in
    subst (λ e. IfOk c.read.result (λ lines. HasStepped k c.args.self.now lines (λ p s. step_event p k.buffer s n (event_seen e)))) (sym a.is)
    (on_quiet c.read.result k c.args.self.now n (λ p s. step_read p s n (target_seen a.target)) c.read.ensures.step)

pub returns-in-Watch-clause-step : goal.returns-in-Watch-clause-step
returns-in-Watch-clause-step g c =
    let k : Kept = c.args.self.now in
    let n = c.args.n in
    let a = c.in-Watch in
    subst (λ e. IfOk c.watch.result (λ lines. HasStepped k c.watch.new.self lines (λ p s. step_event p k.buffer s n (event_seen e)))) (sym a.is)
    (on_quiet c.watch.result k c.watch.new.self n (λ p s. step_watch p s n a.watch (target_seen a.target)) c.watch.ensures.step)

pub returns-in-Unwatch-clause-step : goal.returns-in-Unwatch-clause-step
returns-in-Unwatch-clause-step g c =
    let k : Kept = c.args.self.now in
    let n = c.args.n in
    let a = c.in-Unwatch in
    subst (λ e. IfOk c.unwatch.result (λ lines. HasStepped k c.unwatch.new.self lines (λ p s. step_event p k.buffer s n (event_seen e)))) (sym a.is)
    (on_quiet c.unwatch.result k c.unwatch.new.self n (λ p s. step_unwatch s n a.watch) c.unwatch.ensures.step)

pub returns-in-Retain-clause-keys : goal.returns-in-Retain-clause-keys
returns-in-Retain-clause-keys g c = not_swept c.retain.result c.args.self.now (event (event_seen c.args.event)) (ap (λ e. event_sweeps (event_seen e)) c.in-Retain.is)

pub returns-in-Release-clause-keys : goal.returns-in-Release-clause-keys
returns-in-Release-clause-keys g c = not_swept c.release.result c.args.self.now (event (event_seen c.args.event)) (ap (λ e. event_sweeps (event_seen e)) c.in-Release.is)

pub returns-in-Payload-clause-keys : goal.returns-in-Payload-clause-keys
returns-in-Payload-clause-keys g c = not_swept c.confirm.result c.args.self.now (event (event_seen c.args.event)) (ap (λ e. event_sweeps (event_seen e)) c.in-Payload.is)

pub returns-in-Update-clause-keys : goal.returns-in-Update-clause-keys
returns-in-Update-clause-keys g c = not_swept c.confirm-in-Update.result c.args.self.now (event (event_seen c.args.event)) (ap (λ e. event_sweeps (event_seen e)) c.in-Update.is)

pub returns-in-Begin-clause-keys : goal.returns-in-Begin-clause-keys
returns-in-Begin-clause-keys g c = not_swept c.begin.result c.args.self.now (event (event_seen c.args.event)) (ap (λ e. event_sweeps (event_seen e)) c.in-Begin.is)

pub returns-in-Finish-clause-keys : goal.returns-in-Finish-clause-keys
returns-in-Finish-clause-keys g c = not_swept c.finish.result c.args.self.now (event (event_seen c.args.event)) (ap (λ e. event_sweeps (event_seen e)) c.in-Finish.is)

pub returns-in-Revert-clause-keys : goal.returns-in-Revert-clause-keys
returns-in-Revert-clause-keys g c = not_swept c.revert.result c.args.self.now (event (event_seen c.args.event)) (ap (λ e. event_sweeps (event_seen e)) c.in-Revert.is)

pub returns-in-Read-clause-keys : goal.returns-in-Read-clause-keys
returns-in-Read-clause-keys g c = not_swept c.read.result c.args.self.now (event (event_seen c.args.event)) (ap (λ e. event_sweeps (event_seen e)) c.in-Read.is)

pub returns-in-Watch-clause-keys : goal.returns-in-Watch-clause-keys
returns-in-Watch-clause-keys g c = not_swept c.watch.result c.args.self.now (event (event_seen c.args.event)) (ap (λ e. event_sweeps (event_seen e)) c.in-Watch.is)

pub returns-in-Unwatch-clause-keys : goal.returns-in-Unwatch-clause-keys
returns-in-Unwatch-clause-keys g c = not_swept c.unwatch.result c.args.self.now (event (event_seen c.args.event)) (ap (λ e. event_sweeps (event_seen e)) c.in-Unwatch.is)

pub returns-in-Collect-clause-keys : goal.returns-in-Collect-clause-keys
returns-in-Collect-clause-keys g c =
    IfOk-weaker c.collect.result (λ lines. AllByRecursion (λ (e : Entry). HaveHandleKeys e.facts.handles) (entries_of c.args.self.now.layers.live))
    (λ lines. HasHandleKeys c.args.self.now (event (event_seen c.args.event))) (λ lines keys sweeping. keys) c.collect.ensures.keys

pub returns-in-Retain-clause-exact : goal.returns-in-Retain-clause-exact
returns-in-Retain-clause-exact g c =
    not_reverted c.retain.result c.args.self.now (event (event_seen c.args.event)) (g.S.Count.Steps.applies c.args.steps.now) _ (ap (λ e. reverted_by (event_seen e)) c.in-Retain.is)

pub returns-in-Release-clause-exact : goal.returns-in-Release-clause-exact
returns-in-Release-clause-exact g c =
    not_reverted c.release.result c.args.self.now (event (event_seen c.args.event)) (g.S.Count.Steps.applies c.args.steps.now) _ (ap (λ e. reverted_by (event_seen e)) c.in-Release.is)

pub returns-in-Payload-clause-exact : goal.returns-in-Payload-clause-exact
returns-in-Payload-clause-exact g c =
    not_reverted c.confirm.result c.args.self.now (event (event_seen c.args.event)) (g.S.Count.Steps.applies c.args.steps.now) _ (ap (λ e. reverted_by (event_seen e)) c.in-Payload.is)

pub returns-in-Update-clause-exact : goal.returns-in-Update-clause-exact
returns-in-Update-clause-exact g c =
    not_reverted c.confirm-in-Update.result c.args.self.now (event (event_seen c.args.event)) (g.S.Count.Steps.applies c.args.steps.now) _ (ap (λ e. reverted_by (event_seen e)) c.in-Update.is)

pub returns-in-Begin-clause-exact : goal.returns-in-Begin-clause-exact
returns-in-Begin-clause-exact g c =
    not_reverted c.begin.result c.args.self.now (event (event_seen c.args.event)) (g.S.Count.Steps.applies c.args.steps.now) _ (ap (λ e. reverted_by (event_seen e)) c.in-Begin.is)

pub returns-in-Finish-clause-exact : goal.returns-in-Finish-clause-exact
returns-in-Finish-clause-exact g c =
    not_reverted c.finish.result c.args.self.now (event (event_seen c.args.event)) (g.S.Count.Steps.applies c.args.steps.now) _ (ap (λ e. reverted_by (event_seen e)) c.in-Finish.is)

pub returns-in-Read-clause-exact : goal.returns-in-Read-clause-exact
returns-in-Read-clause-exact g c =
    not_reverted c.read.result c.args.self.now (event (event_seen c.args.event)) (g.S.Count.Steps.applies c.args.steps.now) _ (ap (λ e. reverted_by (event_seen e)) c.in-Read.is)

pub returns-in-Watch-clause-exact : goal.returns-in-Watch-clause-exact
returns-in-Watch-clause-exact g c =
    not_reverted c.watch.result c.args.self.now (event (event_seen c.args.event)) (g.S.Count.Steps.applies c.args.steps.now) _ (ap (λ e. reverted_by (event_seen e)) c.in-Watch.is)

pub returns-in-Unwatch-clause-exact : goal.returns-in-Unwatch-clause-exact
returns-in-Unwatch-clause-exact g c =
    not_reverted c.unwatch.result c.args.self.now (event (event_seen c.args.event)) (g.S.Count.Steps.applies c.args.steps.now) _ (ap (λ e. reverted_by (event_seen e)) c.in-Unwatch.is)

pub returns-in-Collect-clause-exact : goal.returns-in-Collect-clause-exact
returns-in-Collect-clause-exact g c =
    not_reverted c.collect.result c.args.self.now (event (event_seen c.args.event)) (g.S.Count.Steps.applies c.args.steps.now) _ (ap (λ e. reverted_by (event_seen e)) c.in-Collect.is)

pub returns-in-Revert-clause-exact : goal.returns-in-Revert-clause-exact
returns-in-Revert-clause-exact g c =
    is_reverted c.revert.result c.args.self.now (event (event_seen c.args.event)) (g.S.Count.Steps.applies c.args.steps.now) (g.S.Count.Steps.applies c.revert.new.steps) c.in-Revert.layer
    (ap (λ e. reverted_by (event_seen e)) c.in-Revert.is) c.revert.ensures.exact

pub returns-in-Payload-clause-looks : goal.returns-in-Payload-clause-looks
returns-in-Payload-clause-looks g c =
    subst (λ e. IsWithinWork c.args.self.now c.args.n (event (event_seen e)) (g.S.Count.Steps.looks c.args.steps.now) (g.S.Count.Steps.looks c.confirm.new.steps)) (sym c.in-Payload.is)
    (λ p s stands quiet. c.confirm.ensures.looks p s stands)

pub returns-in-Update-clause-looks : goal.returns-in-Update-clause-looks
returns-in-Update-clause-looks g c =
    subst (λ e. IsWithinWork c.args.self.now c.args.n (event (event_seen e)) (g.S.Count.Steps.looks c.args.steps.now) (g.S.Count.Steps.looks c.confirm-in-Update.new.steps)) (sym c.in-Update.is)
    (λ p s stands quiet. c.confirm-in-Update.ensures.looks p s stands)

pub returns-in-Begin-clause-looks : goal.returns-in-Begin-clause-looks
returns-in-Begin-clause-looks g c =
    subst (λ e. IsWithinWork c.args.self.now c.args.n (event (event_seen e)) (g.S.Count.Steps.looks c.args.steps.now) (g.S.Count.Steps.looks c.begin.new.steps)) (sym c.in-Begin.is)
    (λ p s stands quiet. c.begin.ensures.looks p s stands)

pub returns-in-Finish-clause-looks : goal.returns-in-Finish-clause-looks
returns-in-Finish-clause-looks g c =
    subst (λ e. IsWithinWork c.args.self.now c.args.n (event (event_seen e)) (g.S.Count.Steps.looks c.args.steps.now) (g.S.Count.Steps.looks c.finish.new.steps)) (sym c.in-Finish.is)
    (λ p s stands quiet. c.finish.ensures.looks p s stands)

pub returns-in-Revert-clause-looks : goal.returns-in-Revert-clause-looks
returns-in-Revert-clause-looks g c =
    subst (λ e. IsWithinWork c.args.self.now c.args.n (event (event_seen e)) (g.S.Count.Steps.looks c.args.steps.now) (g.S.Count.Steps.looks c.revert.new.steps)) (sym c.in-Revert.is)
    (λ p s stands quiet. c.revert.ensures.looks p s stands)

pub returns-in-Read-clause-looks : goal.returns-in-Read-clause-looks
returns-in-Read-clause-looks g c =
    subst (λ e. IsWithinWork c.args.self.now c.args.n (event (event_seen e)) (g.S.Count.Steps.looks c.args.steps.now) (g.S.Count.Steps.looks c.read.new.steps)) (sym c.in-Read.is)
    (λ p s stands quiet. c.read.ensures.looks p s stands)

pub returns-in-Watch-clause-looks : goal.returns-in-Watch-clause-looks
returns-in-Watch-clause-looks g c =
    subst (λ e. IsWithinWork c.args.self.now c.args.n (event (event_seen e)) (g.S.Count.Steps.looks c.args.steps.now) (g.S.Count.Steps.looks c.watch.new.steps)) (sym c.in-Watch.is)
    (λ p s stands quiet. c.watch.ensures.looks p s stands)

pub returns-in-Collect-clause-looks : goal.returns-in-Collect-clause-looks
returns-in-Collect-clause-looks g c = λ p s stands quiet. absurd (true≢false (sym (ap (λ e. event_sweeps (event_seen e)) c.in-Collect.is) ∙ quiet))

pub returns-in-Revert-clause-step : goal.returns-in-Revert-clause-step
returns-in-Revert-clause-step g c =
    let k : Kept = c.args.self.now in
    subst (λ e. IfOk c.revert.result (λ lines. HasStepped k c.revert.new.self lines (λ p s. step_event p k.buffer s c.args.n (event_seen e)))) (sym c.in-Revert.is) c.revert.ensures.step
