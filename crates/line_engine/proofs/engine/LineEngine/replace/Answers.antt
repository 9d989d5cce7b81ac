use Rattle.std.proofs.Common.{◌≡◌, ◌∷◌, true, codes, refl, ap, sym, subst, ◌∙◌}
use Rattle.line_engine.proofs.ChangeLaws.{finished_differ, never_refused, on_change}
use Rattle.line_engine.proofs.ChangeWork.{finishes, finishing, seen_finished}
use Rattle.line_engine.proofs.StandingLaws.{stands_finished}
use Rattle.line_engine.proofs.WorkLaws.{call_within, noticed_within}
use Rattle.line_engine.proofs.engine.LineEngine.replace.Goals as goal
use Rattle.line_engine.specs.Kept.{Kept}
use Rattle.line_engine.specs.Work.{confirming}
use Rattle.relay_machine.specs.Machine.{confirm, drop_layer}
use Rattle.relay_machine.specs.Printed.{event_line}
use Rattle.store_layers.specs.Changed.{AreChanged}
use Rattle.store_layers.specs.Drafts.{Fits, placed}
use Rattle.store_layers.specs.Layered.{Layered, entries_of, finished, is_live, view_of, without}

pub draft_finish-requires : goal.draft_finish-requires
draft_finish-requires g c =
    record { name = subst (λ (l : Layered). is_live l.live c.args.layer.now ≡ true) (sym (ap (λ (x : Kept). x.layers) c.self.view_is)) c.requires.live }

pub returns-clause-step : goal.returns-clause-step
returns-clause-step g c =
    let k : Kept = c.args.self.now in
    let e = c.args.entry in
    let name = c.args.layer.now in
    let ids = c.in_ok-draft.draft.touched in
    let same : c.self.inside.layers ≡ k.layers = ap (λ (x : Kept). x.layers) c.self.view_is in
    let made : placed g.S.RecordSource.records k.layers c.in_ok-draft.draft ≡ finished name e k.layers = subst (λ l. placed g.S.RecordSource.records l c.in_ok-draft.draft ≡ finished name e l) same c.in_ok-draft.ensures.placed in
    on_change c.change.result k c.change.new.self (placed g.S.RecordSource.records k.layers c.in_ok-draft.draft) (finished name e k.layers) ids c.in_ok-answer.answer c.args.n (event_line (codes "finish") c.args.n)
    (λ s. confirm e (drop_layer name s))
    c.change.ensures.step made c.in_ok-answer.ensures
    (finished_differ k.layers ids name e (subst (λ (l : Layered). AreChanged l.base (entries_of l.live) (e ∷ entries_of (without name l.live)) ids) same c.in_ok-draft.ensures.changed))
    (λ s. refl) (λ p s stands. stands_finished k p s stands name e)

pub returns-clause-spares : goal.returns-clause-spares
returns-clause-spares g c = record {
  buffer = c.change.ensures.buffer;
  refused = never_refused c.change.result (c.change.new.self ≡ c.args.self.now) c.in_ok-answer.answer (event_line (codes "finish") c.args.n) c.change.ensures.refused c.in_ok-answer.ensures;
  err = c.change.ensures.err;
}

pub returns-in_err-draft-clause-looks : goal.returns-in_err-draft-clause-looks
returns-in_err-draft-clause-looks g c = λ p s stands.
    let k : Kept = c.args.self.now in
    let e = c.args.entry in
    let name = c.args.layer.now in
    let next = confirm e (drop_layer name s) in
    let same : c.self.inside.layers ≡ k.layers = ap (λ (x : Kept). x.layers) c.self.view_is in
    call_within p k next (finishing name e c.self.inside.layers) (confirming p s next) (ap (finishing name e) same ∙ finishes k p s stands name e)
    (g.S.Count.Steps.looks c.args.steps.now) (g.S.Count.Steps.looks c.draft_finish.new.steps) c.draft_finish.ensures.looks

pub returns-clause-looks : goal.returns-clause-looks
returns-clause-looks g c = λ p s stands.
    let k : Kept = c.args.self.now in
    let e = c.args.entry in
    let name = c.args.layer.now in
    let next = confirm e (drop_layer name s) in
    let same : c.self.inside.layers ≡ k.layers = ap (λ (x : Kept). x.layers) c.self.view_is in
    let made : placed g.S.RecordSource.records k.layers c.in_ok-draft.draft ≡ finished name e k.layers = subst (λ l. placed g.S.RecordSource.records l c.in_ok-draft.draft ≡ finished name e l) same c.in_ok-draft.ensures.placed in
    noticed_within p k next (finishing name e c.self.inside.layers) (confirming p s next) (ap (finishing name e) same ∙ finishes k p s stands name e)
    (g.S.Count.Steps.looks c.args.steps.now) (g.S.Count.Steps.looks c.draft_finish.new.steps) c.draft_finish.ensures.looks c.in_ok-draft.draft.touched c.in_ok-draft.ensures.changed.only
    (placed g.S.RecordSource.records k.layers c.in_ok-draft.draft) (ap view_of made ∙ seen_finished k p s stands name e) (g.S.Count.Steps.looks c.change.new.steps) c.change.ensures.looks

pub change-requires : goal.change-requires
change-requires g c = record { fits = subst (λ (x : Kept). Fits g.S.RecordSource.records x.layers c.in_ok-draft.draft) c.self.view_is c.in_ok-draft.ensures.fits }
