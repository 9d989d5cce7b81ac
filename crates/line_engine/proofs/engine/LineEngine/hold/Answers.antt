use Rattle.std.proofs.Common.{◌≡◌, codes, is_some, ap, sym, subst, ◌∙◌}
use Rattle.line_engine.proofs.HandleLaws.{is_some-under, live_is}
use Rattle.line_engine.proofs.KeepingLaws.{kept_of, stands_retained}
use Rattle.line_engine.proofs.PlanLaws.{plans_retained}
use Rattle.line_engine.proofs.StepLaws.{accepting}
use Rattle.line_engine.proofs.engine.LineEngine.hold.Goals as goal
use Rattle.line_engine.specs.Handles.{handle_under}
use Rattle.line_engine.specs.Kept.{Kept}
use Rattle.line_engine.specs.Operations.{HoldPlans, HoldsPlan}
use Rattle.line_engine.specs.Stands.{StandsFor}
use Rattle.relay_machine.specs.Machine.{with_handle}
use Rattle.relay_machine.specs.Printed.{event_line}
use Rattle.store_retain.specs.Kept.{all_held, retained}

pub retain-requires : goal.retain-requires
retain-requires g c =
    let live = c.self.inside.retained.live in
    let name = c.in_ok-copy.field-0 in
    sym (live_is name live) ∙ sym (is_some-under name live) ∙ (λ i. is_some (handle_under (c.self.view_is i).handles (c.in_ok-copy.ensures i))) ∙ c.requires.free

pub invariant_of-self-2 : goal.invariant_of-self-2
invariant_of-self-2 g c =
    let old = c.self.inside in
    subst (λ r. HoldPlans old.project.0 old.project.1 (all_held r)) (sym c.in_ok-retain.ensures.ok)
    (plans_retained old.project.0 old.project.1 old.retained c.in_ok-copy.field-0 c.args.held c.self.invariant
    (subst (λ (x : Kept). HoldsPlan x.defs x.documents c.args.held) (sym c.self.view_is) c.requires.there))

pub returns-clause-step : goal.returns-clause-step
returns-clause-step g c = λ p s h stands keeps.
    let n = c.args.n in
    let name = c.args.handle.now in
    let held = c.args.held in
    let old = c.self.inside in
    let here : StandsFor (kept_of old.project old.layers old.retained old.watches) p s = subst (λ (x : Kept). StandsFor x p s) (sym c.self.view_is) stands in
    let made : c.retain.new.self ≡ retained name held old.retained = c.in_ok-retain.ensures.ok ∙ ap (λ t. retained t held old.retained) c.in_ok-copy.ensures in
    accepting (kept_of old.project old.layers c.retain.new.self old.watches) p (with_handle h s) (event_line (codes "retain") n) c.in_ok-lines.lines
    (subst (λ r. StandsFor (kept_of old.project old.layers r old.watches) p (with_handle h s)) (sym made)
    (stands_retained old.project old.layers old.retained old.watches p s here name held h keeps))
    c.in_ok-lines.ensures
