use Rattle.std.proofs.Common.{◌≡◌, ◌<◌, length, map, List, ap, sym, subst, ◌∙◌}
use Rattle.std.specs.List.{AllByRecursion}
use Rattle.line_engine.proofs.ChangeLaws.{Notified, step_noticed, with_changes}
use Rattle.line_engine.proofs.WorkLaws.{notified}
use Rattle.line_engine.proofs.engine.LineEngine.change.Goals as goal
use Rattle.line_engine.specs.Handles.{handle_kept, operation_kept}
use Rattle.line_engine.specs.Kept.{Kept}
use Rattle.line_engine.specs.Notices.{HasAnswered}
use Rattle.line_engine.specs.Stands.{StandsFor}
use Rattle.line_engine.specs.Steps.{IsStep}
use Rattle.relay_machine.specs.Machine.{noticed}
use Rattle.store_layers.specs.Drafts.{Fits, placed}
use Rattle.store_layers.specs.Layered.{view_of}
use Rattle.plan_ir.specs.store_model.Records.{Records}
use Rattle.store_watch.specs.store_read.Reading.{slots}
use Rattle.store_watch.specs.Watching.{DifferAt, Telling, Watch}

pub with_notices-requires : goal.with_notices-requires
with_notices-requires g c =
    record {
      within =
          subst (λ (ts : List Telling). AllByRecursion (λ (t : Telling). t.place < length c.self.inside.watches) ts) (sym c.in_ok-notices.ensures.notices) c.notify.ensures.within;
    }

pub returns-clause-step : goal.returns-clause-step
returns-clause-step g c = λ p s step stands differ has.
    let r = g.S.RecordSource.records in
    let inside = c.self.inside in
    let d = c.args.draft in
    let ls = placed r c.args.self.now.layers d in
    let ids = d.touched in
    let told = c.in_ok-notices.notices in
    let old : Kept = record {
      defs = inside.project.0;
      documents = inside.project.1;
      buffer = inside.retained.buffer;
      layers = inside.layers;
      handles = map handle_kept inside.retained.live;
      released = map operation_kept inside.retained.released;
      watches = inside.watches;
    } in
    let notified : Notified old (slots (view_of ls)) ids told =
    subst (λ (m : Records). Notified old (slots m) ids told) c.requires.fits.view
    (record { found = c.in_ok-notices.ensures.notices; others = c.notify.ensures.others; current = c.notify.ensures.current }) in
    let here : StandsFor old p s = subst (λ (x : Kept). StandsFor x p s) (sym c.self.view_is) stands in
    let apart : DifferAt ids (slots (view_of old.layers)) (slots (view_of ls)) = subst (λ (x : Kept). DifferAt ids (slots (view_of x.layers)) (slots (view_of ls))) (sym c.self.view_is) differ in
    let answered : HasAnswered old ls p s step c.args.answer = subst (λ (x : Kept). HasAnswered x ls p s step c.args.answer) (sym c.self.view_is) has in
    let settled : c.settle.new.self ≡ ls = c.in_ok-settle.ensures.ok ∙ ap (λ (x : Kept). placed r x.layers d) c.self.view_is in
    subst (λ l. IsStep p (noticed p c.args.n (length s.watches) step) c.in_ok-lines.lines (with_changes old l c.accept.new.self)) (sym settled)
    (subst (λ (ws : List Watch). IsStep p (noticed p c.args.n (length s.watches) step) c.in_ok-lines.lines (with_changes old ls ws)) (sym c.accept.ensures)
    (step_noticed old ls ids told c.args.answer c.in_ok-lines.lines c.args.n notified c.in_ok-lines.ensures.text c.in_ok-lines.ensures.single c.in_ok-lines.ensures.refused p s step here apart answered))

pub returns-clause-looks : goal.returns-clause-looks
returns-clause-looks g c =
    notified (placed g.S.RecordSource.records c.args.self.now.layers c.args.draft) c.self.inside.watches c.args.self.now c.args.draft.touched (g.S.RecordSource.records c.args.draft.view) c.requires.fits.view
    (ap (λ (x : Kept). x.watches) c.self.view_is) (g.S.Count.Steps.looks c.args.steps.now) (g.S.Count.Steps.looks c.notify.new.steps) c.notify.ensures.looks

pub returns-in_err-notices-clause-looks : goal.returns-in_err-notices-clause-looks
returns-in_err-notices-clause-looks g c =
    notified (placed g.S.RecordSource.records c.args.self.now.layers c.args.draft) c.self.inside.watches c.args.self.now c.args.draft.touched (g.S.RecordSource.records c.args.draft.view) c.requires.fits.view
    (ap (λ (x : Kept). x.watches) c.self.view_is) (g.S.Count.Steps.looks c.args.steps.now) (g.S.Count.Steps.looks c.notify.new.steps) c.notify.ensures.looks

pub returns-in_err-lines-clause-looks : goal.returns-in_err-lines-clause-looks
returns-in_err-lines-clause-looks g c =
    notified (placed g.S.RecordSource.records c.args.self.now.layers c.args.draft) c.self.inside.watches c.args.self.now c.args.draft.touched (g.S.RecordSource.records c.args.draft.view) c.requires.fits.view
    (ap (λ (x : Kept). x.watches) c.self.view_is) (g.S.Count.Steps.looks c.args.steps.now) (g.S.Count.Steps.looks c.notify.new.steps) c.notify.ensures.looks

pub returns-in_err-settle-clause-looks : goal.returns-in_err-settle-clause-looks
returns-in_err-settle-clause-looks g c =
    notified (placed g.S.RecordSource.records c.args.self.now.layers c.args.draft) c.self.inside.watches c.args.self.now c.args.draft.touched (g.S.RecordSource.records c.args.draft.view) c.requires.fits.view
    (ap (λ (x : Kept). x.watches) c.self.view_is) (g.S.Count.Steps.looks c.args.steps.now) (g.S.Count.Steps.looks c.notify.new.steps) c.notify.ensures.looks

pub settle-requires : goal.settle-requires
settle-requires g c = subst (λ (x : Kept). Fits g.S.RecordSource.records x.layers c.args.draft) (sym c.self.view_is) c.requires.fits
