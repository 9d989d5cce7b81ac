use Rattle.std.proofs.Common.{◌≡◌, true, false, not, codes, ap, sym, subst, ◌∙◌}
use Rattle.line_engine.proofs.KeepingLaws.{kept_of, stands_unwatched, whether_watch, with_watches}
use Rattle.line_engine.proofs.StepLaws.{accepting, on_refusal, same_step, unless-false, unless-true}
use Rattle.line_engine.proofs.engine.LineEngine.unwatch.Goals as goal
use Rattle.line_engine.specs.Kept.{Kept}
use Rattle.line_engine.specs.Stands.{StandsFor}
use Rattle.relay_machine.specs.Machine as machine
use Rattle.relay_machine.specs.Machine.{State, Step, accept, is_watch, refuse, step_unwatch, without_watch}
use Rattle.relay_machine.specs.Printed.{event_line}
use Rattle.relay_machine.specs.Refusals.{unknown_watch}

pub returns-then-not-is_live-clause-step : goal.returns-then-not-is_live-clause-step
returns-then-not-is_live-clause-step g c =
    let k : Kept = c.args.self.now in
    let n = c.args.n in
    let name = c.args.watch.now in
    let told = c.as_str-then-not-is_live.result.now in
    on_refusal c.refuse.result k n (unknown_watch told) (λ p s. step_unwatch s n name) c.refuse.ensures (λ p s stands.
    let live : is_watch s.watches name ≡ false =
    whether_watch k p s stands c.self.inside.watches c.as_str.result.now name c.is_live.result (ap (λ (x : Kept). x.watches) c.self.view_is) c.as_str.ensures c.is_live.ensures ∙ c.if-not-is_live.true in
    unless-true s n (not (is_watch s.watches name)) (unknown_watch name) (accept (event_line (codes "unwatch") n) (machine.with_watches (without_watch name s.watches) s)) (ap not live)
    ∙ ap (λ t. refuse s n (unknown_watch t)) (sym c.as_str-then-not-is_live.ensures))

pub returns-clause-step : goal.returns-clause-step
returns-clause-step g c = λ p s stands.
    let n = c.args.n in
    let name = c.args.watch.now in
    let old = c.self.inside in
    let k : Kept = kept_of old.project old.layers old.retained old.watches in
    let here : StandsFor k p s = subst (λ (x : Kept). StandsFor x p s) (sym c.self.view_is) stands in
    let live : is_watch s.watches name ≡ true =
    whether_watch c.args.self.now p s stands old.watches c.as_str.result.now name c.is_live.result (ap (λ (x : Kept). x.watches) c.self.view_is) c.as_str.ensures c.is_live.ensures ∙ c.if-not-is_live.false in
    let after : State = machine.with_watches (without_watch name s.watches) s in
    let last : Step = accept (event_line (codes "unwatch") n) after in
    same_step (with_watches k c.stop.new.self) p last (step_unwatch s n name) c.in_ok-lines.lines
    (unless-false s n (not (is_watch s.watches name)) (unknown_watch name) last (ap not live))
    (accepting (with_watches k c.stop.new.self) p after (event_line (codes "unwatch") n) c.in_ok-lines.lines
    (subst (λ ws. StandsFor (with_watches k ws) p after) (sym c.stop.ensures) (stands_unwatched k p s here name)) c.in_ok-lines.ensures)
