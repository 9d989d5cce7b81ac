use Rattle.std.proofs.Common.{◌≡◌, ◌==◌, ◌+◌, ◌≤◌, [], ◌∷◌, Bool, true, false, Option, length, ap, sym, subst, ◌∙◌}
use Rattle.std.proofs.lemmas.Result.{IfOk-weaker}
use Rattle.event_script.specs.Seen.{target_seen}
use Rattle.line_engine.proofs.KeepingLaws.{watches_count, whether_watch}
use Rattle.line_engine.proofs.StandingLaws.{view_is}
use Rattle.line_engine.proofs.StepLaws.{on_refusal, same_step, unless-false, unless-true}
use Rattle.line_engine.proofs.WorkLaws.{event_reads}
use Rattle.line_engine.proofs.engine.LineEngine.watch.Goals as goal
use Rattle.line_engine.specs.Kept.{Kept}
use Rattle.line_engine.specs.Stands.{ShowsPart, StandsFor}
use Rattle.line_engine.specs.Steps.{HasStepped, IsStep}
use Rattle.line_engine.specs.Targets.{ReadsTarget, Targets}
use Rattle.relay_machine.specs.Effects.{reads_of_target}
use Rattle.relay_machine.specs.Machine.{Handle, PartShown, Project, State, Step, handle_named, is_watch, of_target, refuse, start_watch, step_watch, unless, view}
use Rattle.relay_machine.specs.Refusals.{most, too_many, watch_taken, watches}
use Rattle.plan_ir.specs.store_model.Events as events
use Rattle.plan_ir.specs.store_model.Records.{Records}
use Rattle.plan_ir.specs.store_model.Walks.{standings}
use Rattle.store_watch.specs.store_read.Reading.{slots}
use Rattle.store_watch.specs.Rows.{look_of}
use Rattle.store_watch.specs.Watching.{is_live, read_of}

pub returns-then-is_live-clause-step : goal.returns-then-is_live-clause-step
returns-then-is_live-clause-step g c =
    let k : Kept = c.args.self.now in
    let n = c.args.n in
    let name = c.args.watch in
    let told = c.as_str-then-is_live.result.now in
    let target = target_seen c.args.target.now in
    on_refusal c.refuse.result k n (watch_taken told) (λ p s. step_watch p s n name target) c.refuse.ensures (λ p s stands.
    let live : is_watch s.watches name ≡ true =
    whether_watch k p s stands c.self.inside.watches c.as_str.result.now name c.is_live.result (ap (λ (x : Kept). x.watches) c.self.view_is) c.as_str.ensures c.is_live.ensures ∙ c.if-is_live.true in
    unless-true s n (is_watch s.watches name) (watch_taken name)
    (of_target p s n target (handle_named s.handles target.handle) (unless s n (length s.watches == most watches) (too_many watches)) (start_watch p s n name)) live
    ∙ ap (λ t. refuse s n (watch_taken t)) (sym c.as_str-then-is_live.ensures))

pub start_watch-requires : goal.start_watch-requires
start_watch-requires g c =
    record {
      free =
          sym (λ i. is_live (c.self.view_is i).watches (c.as_str.ensures i)) ∙ sym c.is_live.ensures ∙ c.if-is_live.false;
    }

pub returns-in-Shown-clause-step : goal.returns-in-Shown-clause-step
returns-in-Shown-clause-step g c =
    let k : Kept = c.args.self.now in
    let new : Kept = c.start_watch.new.self in
    let n = c.args.n in
    let name = c.args.watch in
    let target = target_seen c.args.target.now in
    let full : Bool = c.count-is_full.result == most watches in
    let what = c.in-Shown.what in
    IfOk-weaker c.start_watch.result
    (λ lines. (p : Project) (s : State) (h : Handle) (part : Option PartShown) → StandsFor k p s → ShowsPart p (look_of what) h part → IsStep p (start_watch p s n name h part) lines new)
    (λ lines. HasStepped k new lines (λ p s. step_watch p s n name target))
    (λ lines has p s stands.
    let live : is_watch s.watches name ≡ false =
    whether_watch k p s stands c.self.inside.watches c.as_str.result.now name c.is_live.result (ap (λ (x : Kept). x.watches) c.self.view_is) c.as_str.ensures c.is_live.ensures ∙ c.if-is_live.false in
    let count : length s.watches ≡ c.count-is_full.result = watches_count k p s stands c.self.inside.watches c.count-is_full.result (ap (λ (x : Kept). x.watches) c.self.view_is) c.count-is_full.ensures in
    let whole : Step = of_target p s n target (handle_named s.handles target.handle) (λ step. unless s n full (too_many watches) step) (start_watch p s n name) in
    let made : (h : Handle) × (part : Option PartShown) × (whole ≡ start_watch p s n name h part) × ShowsPart p (look_of what) h part =
    subst (Targets k p whole (start_watch p s n name)) c.in-Shown.is (c.in_ok-what.ensures.step p s stands (start_watch p s n name)) in
    same_step new p (start_watch p s n name made.0 made.1) (step_watch p s n name target) lines
    (unless-false s n (is_watch s.watches name) (watch_taken name)
    (of_target p s n target (handle_named s.handles target.handle) (unless s n (length s.watches == most watches) (too_many watches)) (start_watch p s n name)) live
    ∙ ap (λ m. of_target p s n target (handle_named s.handles target.handle) (λ step. unless s n (m == most watches) (too_many watches) step) (start_watch p s n name)) count
    ∙ made.2)
    (has p s made.0 made.1 stands made.3))
    c.start_watch.ensures.step

pub returns-in-Refused-clause-step : goal.returns-in-Refused-clause-step
returns-in-Refused-clause-step g c = λ p s stands.
    let k : Kept = c.args.self.now in
    let n = c.args.n in
    let name = c.args.watch in
    let target = target_seen c.args.target.now in
    let full : Bool = c.count-is_full.result == most watches in
    let live : is_watch s.watches name ≡ false =
    whether_watch k p s stands c.self.inside.watches c.as_str.result.now name c.is_live.result (ap (λ (x : Kept). x.watches) c.self.view_is) c.as_str.ensures c.is_live.ensures ∙ c.if-is_live.false in
    let count : length s.watches ≡ c.count-is_full.result = watches_count k p s stands c.self.inside.watches c.count-is_full.result (ap (λ (x : Kept). x.watches) c.self.view_is) c.count-is_full.ensures in
    let whole : Step = of_target p s n target (handle_named s.handles target.handle) (λ step. unless s n full (too_many watches) step) (start_watch p s n name) in
    same_step k p whole (step_watch p s n name target) c.in-Refused.lines
    (unless-false s n (is_watch s.watches name) (watch_taken name)
    (of_target p s n target (handle_named s.handles target.handle) (unless s n (length s.watches == most watches) (too_many watches)) (start_watch p s n name)) live
    ∙ ap (λ m. of_target p s n target (handle_named s.handles target.handle) (λ step. unless s n (m == most watches) (too_many watches) step) (start_watch p s n name)) count)
    (subst (Targets k p whole (start_watch p s n name)) c.in-Refused.is (c.in_ok-what.ensures.step p s stands (start_watch p s n name)))

pub returns-in-Shown-clause-looks : goal.returns-in-Shown-clause-looks
returns-in-Shown-clause-looks g c = λ p s stands.
    let k : Kept = c.args.self.now in
    let n = c.args.n in
    let name = c.args.watch in
    let target = target_seen c.args.target.now in
    let full : Bool = c.count-is_full.result == most watches in
    let what = c.in-Shown.what in
    let before = g.S.Count.Steps.looks c.args.steps.now in
    let after = g.S.Count.Steps.looks c.start_watch.new.steps in
    let live : is_watch s.watches name ≡ false =
    whether_watch k p s stands c.self.inside.watches c.as_str.result.now name c.is_live.result (ap (λ (x : Kept). x.watches) c.self.view_is) c.as_str.ensures c.is_live.ensures ∙ c.if-is_live.false in
    let count : length s.watches ≡ c.count-is_full.result = watches_count k p s stands c.self.inside.watches c.count-is_full.result (ap (λ (x : Kept). x.watches) c.self.view_is) c.count-is_full.ensures in
    let whole : Step = of_target p s n target (handle_named s.handles target.handle) (λ step. unless s n full (too_many watches) step) (start_watch p s n name) in
    let made : (h : Handle) × (part : Option PartShown) × (whole ≡ start_watch p s n name h part) × ShowsPart p (look_of what) h part =
    subst (Targets k p whole (start_watch p s n name)) c.in-Shown.is (c.in_ok-what.ensures.step p s stands (start_watch p s n name)) in
    let reads : (m : Records) → reads_of_target p m target (handle_named s.handles target.handle) ≡ read_of (slots m) (look_of what) ∷ [] =
    subst (ReadsTarget p s target) c.in-Shown.is (c.in_ok-what.ensures.found p s stands) in
    let begun : Step = start_watch p s n name made.0 made.1 in
    event_reads p k s (events.watch name target) (step_watch p s n name target) begun.text begun.state
    (unless-false s n (is_watch s.watches name) (watch_taken name)
    (of_target p s n target (handle_named s.handles target.handle) (unless s n (length s.watches == most watches) (too_many watches)) (start_watch p s n name)) live
    ∙ ap (λ m. of_target p s n target (handle_named s.handles target.handle) (λ step. unless s n (m == most watches) (too_many watches) step) (start_watch p s n name)) count
    ∙ made.2)
    before after (read_of (slots (view p s)) (look_of what)) (reads (view p s))
    (subst (λ (m : Records). after ≤ before + standings (read_of (slots m) (look_of what))) (view_is k.layers p s stands.base stands.layers) c.start_watch.ensures.looks)
