use Rattle.std.proofs.Common.{◌≡◌, true, false, true≢false, not, length, map, refl, ap, sym, subst, ◌∙◌, arith}
use Rattle.std.proofs.lemmas.Result.{IfOk-weaker}
use Rattle.line_engine.proofs.ChangeLaws.{never_refused, on_change, reverted_differ}
use Rattle.line_engine.proofs.ChangeWork.{reverting, reverts, seen_reverted}
use Rattle.line_engine.proofs.LayerLaws.{fewer_above}
use Rattle.line_engine.proofs.StandingLaws.{stands_reverted, whether_layer}
use Rattle.line_engine.proofs.StepLaws.{on_refusal, on_step, unless-false, unless-true}
use Rattle.line_engine.proofs.WorkLaws.{always, call_within, event_changes, noticed_within}
use Rattle.line_engine.proofs.engine.LineEngine.revert.Goals as goal
use Rattle.line_engine.specs.Answered.{AreLines}
use Rattle.line_engine.specs.Kept.{Kept}
use Rattle.line_engine.specs.Stands.{layer_of}
use Rattle.line_engine.specs.Work.{dropping}
use Rattle.relay_machine.specs.Machine.{accept, drop_layer, is_layer, noticed, refuse, step_revert}
use Rattle.relay_machine.specs.Printed.{event_line, refusal_line}
use Rattle.relay_machine.specs.Refusals.{unknown_layer}
use Rattle.std.specs.Prelude.{codes}
use Rattle.store_layers.specs.Changed.{AreChanged}
use Rattle.store_layers.specs.Drafts.{Fits, placed}
use Rattle.store_layers.specs.Layered.{Layered, above, below, entries_of, from_on, is_live, reverted, view_of}
use Rattle.store_layers.specs.Work.{counted}
use Rattle.plan_ir.specs.store_model.Entries.{fold_entries}
use Rattle.plan_ir.specs.store_model.Events as events

pub returns-then-not-is_live-clause-step : goal.returns-then-not-is_live-clause-step
returns-then-not-is_live-clause-step g c =
    let k : Kept = c.args.self.now in
    let n = c.args.n in
    let name = c.args.layer.now in
    let told = c.as_str-then-not-is_live.result.now in
    on_refusal c.refuse.result k n (unknown_layer told) (λ p s. noticed p n (length s.watches) (step_revert s n name)) c.refuse.ensures (λ p s stands.
    let live : is_layer s.layers name ≡ false = whether_layer k p s stands c.self.inside.layers.live c.as_str.result.now name c.is_live.result (ap (λ (x : Kept). x.layers.live) c.self.view_is) c.as_str.ensures c.is_live.ensures ∙ c.if-not-is_live.true in
    ap (noticed p n (length s.watches))
    (unless-true s n (not (is_layer s.layers name)) (unknown_layer name) _ (ap not live) ∙ ap (λ t. refuse s n (unknown_layer t)) (sym c.as_str-then-not-is_live.ensures)))

pub draft_revert-requires : goal.draft_revert-requires
draft_revert-requires g c =
    let live : is_live c.self.inside.layers.live c.args.layer.now ≡ true = sym (c.is_live.ensures ∙ ap (is_live c.self.inside.layers.live) c.as_str.ensures) ∙ c.if-not-is_live.false in
    live

pub returns-clause-step : goal.returns-clause-step
returns-clause-step g c =
    let k : Kept = c.args.self.now in
    let n = c.args.n in
    let name = c.args.layer.now in
    let ids = c.in_ok-draft.draft.touched in
    let line = event_line (codes "revert") n in
    let same : c.self.inside.layers ≡ k.layers = ap (λ (x : Kept). x.layers) c.self.view_is in
    let made : placed g.S.RecordSource.records k.layers c.in_ok-draft.draft ≡ reverted name k.layers = subst (λ l. placed g.S.RecordSource.records l c.in_ok-draft.draft ≡ reverted name l) same c.in_ok-draft.ensures.placed in
    on_step c.change.result k c.change.new.self (λ p s. noticed p n (length s.watches) (accept line (drop_layer name s))) (λ p s. noticed p n (length s.watches) (step_revert s n name))
    (on_change c.change.result k c.change.new.self (placed g.S.RecordSource.records k.layers c.in_ok-draft.draft) (reverted name k.layers) ids c.in_ok-answer.answer n line (drop_layer name)
    c.change.ensures.step made c.in_ok-answer.ensures
    (reverted_differ k.layers ids name
    (subst (λ (l : Layered). AreChanged (fold_entries (entries_of (below name l.live)) l.base) (entries_of (from_on name l.live)) (entries_of (above name l.live)) ids) same c.in_ok-draft.ensures.changed))
    (λ s. refl) (λ p s stands. stands_reverted k p s stands name))
    (λ p s stands.
    let live : is_layer s.layers name ≡ true = whether_layer k p s stands c.self.inside.layers.live c.as_str.result.now name c.is_live.result (ap (λ (x : Kept). x.layers.live) c.self.view_is) c.as_str.ensures c.is_live.ensures ∙ c.if-not-is_live.false in
    ap (noticed p n (length s.watches)) (unless-false s n (not (is_layer s.layers name)) (unknown_layer name) (accept line (drop_layer name s)) (ap not live)))

pub returns-clause-spares : goal.returns-clause-spares
returns-clause-spares g c = record {
  buffer = c.change.ensures.buffer;
  refused = never_refused c.change.result (c.change.new.self ≡ c.args.self.now) c.in_ok-answer.answer (event_line (codes "revert") c.args.n) c.change.ensures.refused c.in_ok-answer.ensures;
  err = c.change.ensures.err;
}

pub returns-in_err-draft-clause-applies : goal.returns-in_err-draft-clause-applies
returns-in_err-draft-clause-applies g c =
    let same : length c.self.inside.layers.live ≡ length c.args.self.now.layers.live = ap (λ (l : Layered). length l.live) (ap (λ (x : Kept). x.layers) c.self.view_is) in
    let fewer = fewer_above c.args.layer.now c.self.inside.layers.live in
    omega (arith, fewer, same, c.draft_revert.ensures.applies)

pub returns-clause-applies : goal.returns-clause-applies
returns-clause-applies g c =
    let same : length c.self.inside.layers.live ≡ length c.args.self.now.layers.live = ap (λ (l : Layered). length l.live) (ap (λ (x : Kept). x.layers) c.self.view_is) in
    let fewer = fewer_above c.args.layer.now c.self.inside.layers.live in
    omega (arith, fewer, same, c.draft_revert.ensures.applies, c.change.ensures.applies)

pub returns-in_err-draft-clause-looks : goal.returns-in_err-draft-clause-looks
returns-in_err-draft-clause-looks g c = λ p s stands.
    let k : Kept = c.args.self.now in
    let n = c.args.n in
    let name = c.args.layer.now in
    let line = event_line (codes "revert") n in
    let next = drop_layer name s in
    let before = g.S.Count.Steps.looks c.args.steps.now in
    let same : c.self.inside.layers ≡ k.layers = ap (λ (x : Kept). x.layers) c.self.view_is in
    let live : is_layer s.layers name ≡ true = whether_layer k p s stands c.self.inside.layers.live c.as_str.result.now name c.is_live.result (ap (λ (x : Kept). x.layers.live) c.self.view_is) c.as_str.ensures c.is_live.ensures ∙ c.if-not-is_live.false in
    let taken : step_revert s n name ≡ accept line next = unless-false s n (not (is_layer s.layers name)) (unknown_layer name) (accept line next) (ap not live) in
    let after = g.S.Count.Steps.looks c.draft_revert.new.steps in
    event_changes p k s (events.revert name) (step_revert s n name) line next taken before after
    (call_within p k next (reverting name c.self.inside.layers) (dropping p s (map layer_of s.layers) name) (ap (reverting name) same ∙ reverts k p s stands name)
    before after c.draft_revert.ensures.looks)

pub returns-clause-looks : goal.returns-clause-looks
returns-clause-looks g c = λ p s stands.
    let k : Kept = c.args.self.now in
    let n = c.args.n in
    let name = c.args.layer.now in
    let line = event_line (codes "revert") n in
    let next = drop_layer name s in
    let before = g.S.Count.Steps.looks c.args.steps.now in
    let same : c.self.inside.layers ≡ k.layers = ap (λ (x : Kept). x.layers) c.self.view_is in
    let live : is_layer s.layers name ≡ true = whether_layer k p s stands c.self.inside.layers.live c.as_str.result.now name c.is_live.result (ap (λ (x : Kept). x.layers.live) c.self.view_is) c.as_str.ensures c.is_live.ensures ∙ c.if-not-is_live.false in
    let taken : step_revert s n name ≡ accept line next = unless-false s n (not (is_layer s.layers name)) (unknown_layer name) (accept line next) (ap not live) in
    let after = g.S.Count.Steps.looks c.change.new.steps in
    let made : placed g.S.RecordSource.records k.layers c.in_ok-draft.draft ≡ reverted name k.layers = subst (λ l. placed g.S.RecordSource.records l c.in_ok-draft.draft ≡ reverted name l) same c.in_ok-draft.ensures.placed in
    event_changes p k s (events.revert name) (step_revert s n name) line next taken before after
    (noticed_within p k next (reverting name c.self.inside.layers) (dropping p s (map layer_of s.layers) name) (ap (reverting name) same ∙ reverts k p s stands name)
    before (g.S.Count.Steps.looks c.draft_revert.new.steps) c.draft_revert.ensures.looks c.in_ok-draft.draft.touched c.in_ok-draft.ensures.changed.only
    (placed g.S.RecordSource.records k.layers c.in_ok-draft.draft) (ap view_of made ∙ seen_reverted k p s stands name) after c.change.ensures.looks)

pub returns-then-not-is_live-clause-exact : goal.returns-then-not-is_live-clause-exact
returns-then-not-is_live-clause-exact g c =
    IfOk-weaker c.refuse.result (AreLines (refusal_line c.args.n (unknown_layer c.as_str-then-not-is_live.result.now)) true)
    (λ lines. lines.refused ≡ false → g.S.Count.Steps.applies c.args.steps.now ≡ counted (length (above c.args.layer.now c.args.self.now.layers.live)) (g.S.Count.Steps.applies c.args.steps.now))
    (λ lines are taken. absurd (true≢false (sym are.refused ∙ taken))) c.refuse.ensures

pub returns-clause-exact : goal.returns-clause-exact
returns-clause-exact g c =
    let name = c.args.layer.now in
    let before = g.S.Count.Steps.applies c.args.steps.now in
    let same : c.self.inside.layers ≡ c.args.self.now.layers = ap (λ (x : Kept). x.layers) c.self.view_is in
    always c.change.result (λ lines. lines.refused ≡ false → g.S.Count.Steps.applies c.change.new.steps ≡ counted (length (above name c.args.self.now.layers.live)) before)
    (λ lines taken. c.change.ensures.applies ∙ c.in_ok-draft.ensures.exact ∙ ap (λ (l : Layered). counted (length (above name l.live)) before) same)

pub change-requires : goal.change-requires
change-requires g c = record { fits = subst (λ (x : Kept). Fits g.S.RecordSource.records x.layers c.in_ok-draft.draft) c.self.view_is c.in_ok-draft.ensures.fits }
