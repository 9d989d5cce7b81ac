use Rattle.std.proofs.Common.{◌≡◌, true, false, codes, is_some, option_copied, ap, sym, subst, ◌∙◌}
use Rattle.std.proofs.lemmas.Result.{IfOk-weaker}
use Rattle.plan_project.specs.Lookups.{operation_in}
use Rattle.line_engine.proofs.HandleLaws.{is_some-under, whether_some}
use Rattle.line_engine.proofs.KeepingLaws.{whether_handle}
use Rattle.line_engine.proofs.StepLaws.{on_refusal, same_step, unless-false, unless-true}
use Rattle.line_engine.proofs.engine.LineEngine.retain.Goals as goal
use Rattle.line_engine.specs.Handles.{handle_under, held_as}
use Rattle.line_engine.specs.Kept.{Kept}
use Rattle.line_engine.specs.Retained.{IsPrepared}
use Rattle.line_engine.specs.Stands.{KeepsHandle, StandsFor}
use Rattle.line_engine.specs.Steps.{HasStepped, IsStep}
use Rattle.line_engine.specs.declared.retaining.Prepared.TheVariants as P
use Rattle.relay_machine.specs.Machine.{Handle, Project, State, accept, handle_named, refuse, retain_named, step_retain, with_handle}
use Rattle.relay_machine.specs.Printed.{event_line}
use Rattle.relay_machine.specs.Refusals.{handle_taken}

pub returns-then-is_some-clause-step : goal.returns-then-is_some-clause-step
returns-then-is_some-clause-step g c =
    let k : Kept = c.args.self.now in
    let n = c.args.n in
    let name = c.args.handle.now in
    let told = c.as_str-then-is_some.result.now in
    let op = c.args.operation.now in
    let given = c.args.given.now in
    on_refusal c.refuse.result k n (handle_taken told) (λ p s. step_retain p s n name op given) c.refuse.ensures (λ p s stands.
    let live : is_some (handle_named s.handles name) ≡ true =
    whether_handle k p s stands c.self.inside.retained.live c.as_str.result.now name (option_copied c.held.result) true (ap (λ (x : Kept). x.handles) c.self.view_is) c.as_str.ensures c.held.ensures
    (whether_some (λ x. x.now) c.held.result ∙ sym c.is_some.ensures ∙ c.if-is_some.true) in
    unless-true s n (is_some (handle_named s.handles name)) (handle_taken name) (retain_named p s n name op (operation_in p.defs p.documents op) given) live
    ∙ ap (λ t. refuse s n (handle_taken t)) (sym c.as_str-then-is_some.ensures))

pub hold-requires-clause-free : goal.hold-requires-clause-free
hold-requires-clause-free g c =
    let live = c.self.inside.retained.live in
    let told = c.as_str.result.now in
    sym (λ i. is_some (handle_under (c.self.view_is i).handles (c.as_str.ensures i))) ∙ is_some-under told live ∙ ap is_some (sym c.held.ensures)
    ∙ whether_some (λ x. x.now) c.held.result ∙ sym c.is_some.ensures ∙ c.if-is_some.false

pub returns-in-Held-clause-step : goal.returns-in-Held-clause-step
returns-in-Held-clause-step g c =
    let k : Kept = c.args.self.now in
    let new : Kept = c.hold.new.self in
    let n = c.args.n in
    let name = c.args.handle.now in
    let op = c.args.operation.now in
    let given = c.args.given.now in
    let held = c.in-Held.held in
    IfOk-weaker c.hold.result
    (λ lines. (p : Project) (s : State) (h : Handle) → StandsFor k p s → KeepsHandle p (held_as name held) h → IsStep p (accept (event_line (codes "retain") n) (with_handle h s)) lines new)
    (λ lines. HasStepped k new lines (λ p s. step_retain p s n name op given))
    (λ lines has p s stands.
    let live : is_some (handle_named s.handles name) ≡ false =
    whether_handle k p s stands c.self.inside.retained.live c.as_str.result.now name (option_copied c.held.result) false (ap (λ (x : Kept). x.handles) c.self.view_is) c.as_str.ensures c.held.ensures
    (whether_some (λ x. x.now) c.held.result ∙ sym c.is_some.ensures ∙ c.if-is_some.false) in
    let prepared : IsPrepared k p s n (λ t. retain_named p s n t op (operation_in p.defs p.documents op) given) (P.Held held) =
    subst (IsPrepared k p s n (λ t. retain_named p s n t op (operation_in p.defs p.documents op) given)) c.in-Held.is (c.in_ok-held.ensures.step p s stands) in
    let made : (h : Handle) × (retain_named p s n name op (operation_in p.defs p.documents op) given ≡ accept (event_line (codes "retain") n) (with_handle h s)) × KeepsHandle p (held_as name held) h = prepared name in
    same_step new p (accept (event_line (codes "retain") n) (with_handle made.0 s)) (step_retain p s n name op given) lines
    (unless-false s n (is_some (handle_named s.handles name)) (handle_taken name) (retain_named p s n name op (operation_in p.defs p.documents op) given) live ∙ made.1)
    (has p s made.0 stands made.2))
    c.hold.ensures.step

pub returns-in-Refused-clause-step : goal.returns-in-Refused-clause-step
returns-in-Refused-clause-step g c = λ p s stands.
    let k : Kept = c.args.self.now in
    let n = c.args.n in
    let name = c.args.handle.now in
    let op = c.args.operation.now in
    let given = c.args.given.now in
    let live : is_some (handle_named s.handles name) ≡ false =
    whether_handle k p s stands c.self.inside.retained.live c.as_str.result.now name (option_copied c.held.result) false (ap (λ (x : Kept). x.handles) c.self.view_is) c.as_str.ensures c.held.ensures
    (whether_some (λ x. x.now) c.held.result ∙ sym c.is_some.ensures ∙ c.if-is_some.false) in
    let prepared : IsPrepared k p s n (λ t. retain_named p s n t op (operation_in p.defs p.documents op) given) (P.Refused c.in-Refused.lines) =
    subst (IsPrepared k p s n (λ t. retain_named p s n t op (operation_in p.defs p.documents op) given)) c.in-Refused.is (c.in_ok-held.ensures.step p s stands) in
    same_step k p (retain_named p s n name op (operation_in p.defs p.documents op) given) (step_retain p s n name op given) c.in-Refused.lines
    (unless-false s n (is_some (handle_named s.handles name)) (handle_taken name) (retain_named p s n name op (operation_in p.defs p.documents op) given) live)
    (prepared name)
