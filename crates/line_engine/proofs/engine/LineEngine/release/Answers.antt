use Rattle.std.proofs.Common.{◌≡◌, true, false, not, codes, is_some, option_copied, ap, sym, subst, ◌∙◌}
use Rattle.line_engine.proofs.HandleLaws.{live_is, whether_some}
use Rattle.line_engine.proofs.KeepingLaws.{kept_of, stands_released, whether_handle, whether_used}
use Rattle.line_engine.proofs.PlanLaws.{plans_released}
use Rattle.line_engine.proofs.StepLaws.{accepting, on_refusal, same_step, unless-false, unless-true}
use Rattle.line_engine.proofs.engine.LineEngine.release.Goals as goal
use Rattle.line_engine.specs.Kept.{Kept}
use Rattle.line_engine.specs.Operations.{HoldPlans}
use Rattle.line_engine.specs.Stands.{StandsFor}
use Rattle.relay_machine.specs.Machine.{Step, accept, handle_named, is_in_use, refuse, release_handle, step_release, unless}
use Rattle.relay_machine.specs.Printed.{event_line}
use Rattle.relay_machine.specs.Refusals.{handle_in_use, unknown_handle}
use Rattle.store_retain.specs.Kept.{all_held, held_under}

pub returns-then-is_none-clause-step : goal.returns-then-is_none-clause-step
returns-then-is_none-clause-step g c =
    let k : Kept = c.args.self.now in
    let n = c.args.n in
    let name = c.args.handle.now in
    let told = c.as_str-name.result.now in
    on_refusal c.refuse.result k n (unknown_handle told) (λ p s. step_release s n name) c.refuse.ensures (λ p s stands.
    let there : is_some (handle_named s.handles name) ≡ false =
    whether_handle k p s stands c.self.inside.retained.live told name (option_copied c.held.result) false (ap (λ (x : Kept). x.handles) c.self.view_is) c.as_str-name.ensures c.held.ensures
    (whether_some (λ x. x.now) c.held.result ∙ c.is_none.ensures ∙ ap not c.if-is_none.true) in
    let last : Step = unless s n (is_in_use s.watches name) (handle_in_use name) (accept (event_line (codes "release") n) (release_handle name s)) in
    unless-true s n (not (is_some (handle_named s.handles name))) (unknown_handle name) last (ap not there) ∙ ap (λ t. refuse s n (unknown_handle t)) (sym c.as_str-name.ensures))

pub returns-then-uses-clause-step : goal.returns-then-uses-clause-step
returns-then-uses-clause-step g c =
    let k : Kept = c.args.self.now in
    let n = c.args.n in
    let name = c.args.handle.now in
    let told = c.as_str-name.result.now in
    on_refusal c.refuse-then-uses.result k n (handle_in_use told) (λ p s. step_release s n name) c.refuse-then-uses.ensures (λ p s stands.
    let there : is_some (handle_named s.handles name) ≡ true =
    whether_handle k p s stands c.self.inside.retained.live told name (option_copied c.held.result) true (ap (λ (x : Kept). x.handles) c.self.view_is) c.as_str-name.ensures c.held.ensures
    (whether_some (λ x. x.now) c.held.result ∙ c.is_none.ensures ∙ ap not c.if-is_none.false) in
    let used : is_in_use s.watches name ≡ true =
    whether_used k p s stands c.self.inside.watches told name c.uses.result (ap (λ (x : Kept). x.watches) c.self.view_is) c.as_str-name.ensures c.uses.ensures ∙ c.if-uses.true in
    let last : Step = accept (event_line (codes "release") n) (release_handle name s) in
    unless-false s n (not (is_some (handle_named s.handles name))) (unknown_handle name) (unless s n (is_in_use s.watches name) (handle_in_use name) last) (ap not there)
    ∙ unless-true s n (is_in_use s.watches name) (handle_in_use name) last used ∙ ap (λ t. refuse s n (handle_in_use t)) (sym c.as_str-name.ensures))

pub release-requires : goal.release-requires
release-requires g c =
    let name = c.args.handle.now in
    let live = c.self.inside.retained.live in
    sym (live_is name live) ∙ ap (λ t. is_some (held_under t live)) (sym c.as_str-name.ensures) ∙ ap is_some (sym c.held.ensures)
    ∙ whether_some (λ x. x.now) c.held.result ∙ c.is_none.ensures ∙ ap not c.if-is_none.false

pub invariant_of-self : goal.invariant_of-self
invariant_of-self g c =
    let old = c.self.inside in
    subst (λ r. HoldPlans old.project.0 old.project.1 (all_held r)) (sym c.release.ensures)
    (plans_released old.project.0 old.project.1 old.retained c.args.handle.now c.self.invariant)

pub returns-clause-step : goal.returns-clause-step
returns-clause-step g c = λ p s stands.
    let k : Kept = c.args.self.now in
    let n = c.args.n in
    let name = c.args.handle.now in
    let told = c.as_str-name.result.now in
    let old = c.self.inside in
    let here : StandsFor (kept_of old.project old.layers old.retained old.watches) p s = subst (λ (x : Kept). StandsFor x p s) (sym c.self.view_is) stands in
    let new : Kept = kept_of old.project old.layers c.release.new.self old.watches in
    let there : is_some (handle_named s.handles name) ≡ true =
    whether_handle k p s stands old.retained.live told name (option_copied c.held.result) true (ap (λ (x : Kept). x.handles) c.self.view_is) c.as_str-name.ensures c.held.ensures
    (whether_some (λ x. x.now) c.held.result ∙ c.is_none.ensures ∙ ap not c.if-is_none.false) in
    let used : is_in_use s.watches name ≡ false =
    whether_used k p s stands old.watches told name c.uses.result (ap (λ (x : Kept). x.watches) c.self.view_is) c.as_str-name.ensures c.uses.ensures ∙ c.if-uses.false in
    let last : Step = accept (event_line (codes "release") n) (release_handle name s) in
    same_step new p last (step_release s n name) c.in_ok-lines.lines
    (unless-false s n (not (is_some (handle_named s.handles name))) (unknown_handle name) (unless s n (is_in_use s.watches name) (handle_in_use name) last) (ap not there)
    ∙ unless-false s n (is_in_use s.watches name) (handle_in_use name) last used)
    (accepting new p (release_handle name s) (event_line (codes "release") n) c.in_ok-lines.lines
    (subst (λ r. StandsFor (kept_of old.project old.layers r old.watches) p (release_handle name s)) (sym c.release.ensures)
    (stands_released old.project old.layers old.retained old.watches p s here name)) c.in_ok-lines.ensures)
