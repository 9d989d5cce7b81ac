use Rattle.std.proofs.Common.{◌≡◌, ◌+◌, ◌≤◌, ◌++◌, [], ◌∷◌, codes, false, Option, refl, ap, subst, ◌∙◌}
use Rattle.std.proofs.lemmas.Result.{IfOk-weaker}
use Rattle.event_script.specs.Seen.{target_seen}
use Rattle.plan_ir.specs.gql_plain.Tree.{text}
use Rattle.line_engine.proofs.KeepingLaws.{shown_is}
use Rattle.line_engine.proofs.OneLines.{shown_one}
use Rattle.line_engine.proofs.StandingLaws.{view_is}
use Rattle.line_engine.proofs.StepLaws.{accepting, same_step}
use Rattle.line_engine.proofs.WorkLaws.{event_reads}
use Rattle.line_engine.proofs.engine.LineEngine.read.Goals as goal
use Rattle.line_engine.specs.Answered.{AreLines}
use Rattle.line_engine.specs.Kept.{Kept}
use Rattle.line_engine.specs.Stands.{ShowsPart}
use Rattle.line_engine.specs.Steps.{HasStepped}
use Rattle.line_engine.specs.Targets.{ReadsTarget, Targets}
use Rattle.relay_machine.specs.Effects.{reads_of_target}
use Rattle.relay_machine.specs.Machine.{Handle, PartShown, Step, accept, handle_named, shown, step_read, view}
use Rattle.relay_machine.specs.Printed.{read_line}
use Rattle.store_layers.specs.Layered.{view_of}
use Rattle.plan_ir.specs.store_model.Events as events
use Rattle.plan_ir.specs.store_model.Records.{Records}
use Rattle.plan_ir.specs.store_model.Walks.{standings}
use Rattle.store_watch.specs.store_read.Reading.{slots}
use Rattle.store_watch.specs.Rows.{look_of}
use Rattle.store_watch.specs.Watching.{read_of, shows}

pub returns-in_ok-text-in-Shown-clause-step : goal.returns-in_ok-text-in-Shown-clause-step
returns-in_ok-text-in-Shown-clause-step g c =
    let k : Kept = c.args.self.now in
    let n = c.args.n in
    let target = target_seen c.args.target.now in
    let what = c.in-Shown.what in
    let words = c.in_ok-text-in-Shown.text in
    IfOk-weaker c.one_line.result (AreLines (words ++ 10 ∷ []) false) (λ lines. HasStepped k k lines (λ p s. step_read p s n target))
    (λ lines are p s stands.
    let take : Handle → Option PartShown → Step = λ h part. accept (read_line n (shown p (view p s) h part)) s in
    let made : (h : Handle) × (part : Option PartShown) × (step_read p s n target ≡ take h part) × ShowsPart p (look_of what) h part =
    subst (Targets k p (step_read p s n target) take) c.in-Shown.is (c.in_ok-what.ensures.step p s stands take) in
    let records : g.S.RecordSource.records c.view.result.now ≡ view_of k.layers = c.view.ensures ∙ ap (λ (x : Kept). view_of x.layers) c.self.view_is in
    let read : shows (slots (view_of k.layers)) (look_of what) ≡ shown p (view p s) made.0 made.1 =
    shown_is k p s stands (look_of what) made.0 made.1 (shows (slots (view_of k.layers)) (look_of what)) made.3 refl in
    let told : words ++ 10 ∷ [] ≡ read_line n (shown p (view p s) made.0 made.1) =
    c.in_ok-text-in-Shown.ensures.line ∙ ap (λ m. read_line n (shows (slots m) (look_of what))) records ∙ ap (read_line n) read in
    same_step k p (take made.0 made.1) (step_read p s n target) lines made.2
    (accepting k p s (read_line n (shown p (view p s) made.0 made.1)) lines stands (subst (λ t. AreLines t false lines) told are)))
    c.one_line.ensures

pub one_line-requires : goal.one_line-requires
one_line-requires g c =
    shown_one c.args.n (codes "ok", text (codes "read")) (shows (slots (g.S.RecordSource.records c.view.result.now)) (look_of c.in-Shown.what)) c.in_ok-text-in-Shown.text c.in_ok-text-in-Shown.ensures.line

pub returns-in-Refused-clause-step : goal.returns-in-Refused-clause-step
returns-in-Refused-clause-step g c = λ p s stands.
    let k : Kept = c.args.self.now in
    let n = c.args.n in
    let take : Handle → Option PartShown → Step = λ h part. accept (read_line n (shown p (view p s) h part)) s in
    subst (Targets k p (step_read p s n (target_seen c.args.target.now)) take) c.in-Refused.is (c.in_ok-what.ensures.step p s stands take)

pub returns-in_err-text-in-Shown-clause-looks : goal.returns-in_err-text-in-Shown-clause-looks
returns-in_err-text-in-Shown-clause-looks g c = λ p s stands.
    let k : Kept = c.args.self.now in
    let n = c.args.n in
    let target = target_seen c.args.target.now in
    let what = c.in-Shown.what in
    let before = g.S.Count.Steps.looks c.args.steps.now in
    let after = g.S.Count.Steps.looks c.read_line_of.new.steps in
    let take : Handle → Option PartShown → Step = λ h part. accept (read_line n (shown p (view p s) h part)) s in
    let made : (h : Handle) × (part : Option PartShown) × (step_read p s n target ≡ take h part) × ShowsPart p (look_of what) h part =
    subst (Targets k p (step_read p s n target) take) c.in-Shown.is (c.in_ok-what.ensures.step p s stands take) in
    let reads : (m : Records) → reads_of_target p m target (handle_named s.handles target.handle) ≡ read_of (slots m) (look_of what) ∷ [] =
    subst (ReadsTarget p s target) c.in-Shown.is (c.in_ok-what.ensures.found p s stands) in
    let records : g.S.RecordSource.records c.view.result.now ≡ view p s =
    c.view.ensures ∙ ap (λ (x : Kept). view_of x.layers) c.self.view_is ∙ view_is k.layers p s stands.base stands.layers in
    event_reads p k s (events.read target) (step_read p s n target) (read_line n (shown p (view p s) made.0 made.1)) s made.2 before after
    (read_of (slots (view p s)) (look_of what)) (reads (view p s)) (subst (λ (m : Records). after ≤ before + standings (read_of (slots m) (look_of what))) records c.read_line_of.ensures.looks)

pub returns-in_ok-text-in-Shown-clause-looks : goal.returns-in_ok-text-in-Shown-clause-looks
returns-in_ok-text-in-Shown-clause-looks g c = λ p s stands.
    let k : Kept = c.args.self.now in
    let n = c.args.n in
    let target = target_seen c.args.target.now in
    let what = c.in-Shown.what in
    let before = g.S.Count.Steps.looks c.args.steps.now in
    let after = g.S.Count.Steps.looks c.read_line_of.new.steps in
    let take : Handle → Option PartShown → Step = λ h part. accept (read_line n (shown p (view p s) h part)) s in
    let made : (h : Handle) × (part : Option PartShown) × (step_read p s n target ≡ take h part) × ShowsPart p (look_of what) h part =
    subst (Targets k p (step_read p s n target) take) c.in-Shown.is (c.in_ok-what.ensures.step p s stands take) in
    let reads : (m : Records) → reads_of_target p m target (handle_named s.handles target.handle) ≡ read_of (slots m) (look_of what) ∷ [] =
    subst (ReadsTarget p s target) c.in-Shown.is (c.in_ok-what.ensures.found p s stands) in
    let records : g.S.RecordSource.records c.view.result.now ≡ view p s =
    c.view.ensures ∙ ap (λ (x : Kept). view_of x.layers) c.self.view_is ∙ view_is k.layers p s stands.base stands.layers in
    event_reads p k s (events.read target) (step_read p s n target) (read_line n (shown p (view p s) made.0 made.1)) s made.2 before after
    (read_of (slots (view p s)) (look_of what)) (reads (view p s)) (subst (λ (m : Records). after ≤ before + standings (read_of (slots m) (look_of what))) records c.read_line_of.ensures.looks)
