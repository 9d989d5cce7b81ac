use Rattle.std.proofs.Common.{◌≡◌, ◌+◌, ◌*◌, ◌≤◌, [], ◌∷◌, sym, ap, ◌∙◌, subst}
use Rattle.store_update.specs.store_model.Entries.{apply, weight}
use Rattle.store_update.specs.Touched.{AreTouched}
use Rattle.store_layers.proofs.Changes.{begun_ids}
use Rattle.store_layers.proofs.Drafted.{seen_begun}
use Rattle.store_layers.proofs.VersionSteps.{newest_is}
use Rattle.store_layers.proofs.rebuild.begin.Goals as goal
use Rattle.store_layers.specs.Changed.{AreChanged}
use Rattle.store_layers.specs.Layered.{entries_of, view_of}
use Rattle.store_layers.specs.Versions.{shown, layered_of}

pub returns-in_err-version-clause-looks : goal.returns-in_err-version-clause-looks
returns-in_err-version-clause-looks g c =
    let r = g.S.RecordSource.records in
    let from = layered_of (r c.args.base.now) c.args.entries.now.entries in
    let top : r c.newest.result.now ≡ view_of from = c.newest.ensures ∙ newest_is from.base (entries_of from.live) (shown r c.args.versions.now) c.requires.kept.versions in
    subst (λ t. g.S.Count.Steps.looks c.apply.new.steps ≤ g.S.Count.Steps.looks c.args.steps.now + 8 * weight c.args.entry t) top c.apply.ensures.looks

pub returns-in_err-touched-clause-looks : goal.returns-in_err-touched-clause-looks
returns-in_err-touched-clause-looks g c =
    let r = g.S.RecordSource.records in
    let from = layered_of (r c.args.base.now) c.args.entries.now.entries in
    let top : r c.newest.result.now ≡ view_of from = c.newest.ensures ∙ newest_is from.base (entries_of from.live) (shown r c.args.versions.now) c.requires.kept.versions in
    subst (λ t. g.S.Count.Steps.looks c.apply.new.steps ≤ g.S.Count.Steps.looks c.args.steps.now + 8 * weight c.args.entry t) top c.apply.ensures.looks

pub returns-in_err-view-clause-looks : goal.returns-in_err-view-clause-looks
returns-in_err-view-clause-looks g c =
    let r = g.S.RecordSource.records in
    let from = layered_of (r c.args.base.now) c.args.entries.now.entries in
    let top : r c.newest.result.now ≡ view_of from = c.newest.ensures ∙ newest_is from.base (entries_of from.live) (shown r c.args.versions.now) c.requires.kept.versions in
    subst (λ t. g.S.Count.Steps.looks c.apply.new.steps ≤ g.S.Count.Steps.looks c.args.steps.now + 8 * weight c.args.entry t) top c.apply.ensures.looks

pub returns-clause-looks : goal.returns-clause-looks
returns-clause-looks g c =
    let r = g.S.RecordSource.records in
    let from = layered_of (r c.args.base.now) c.args.entries.now.entries in
    let top : r c.newest.result.now ≡ view_of from = c.newest.ensures ∙ newest_is from.base (entries_of from.live) (shown r c.args.versions.now) c.requires.kept.versions in
    subst (λ t. g.S.Count.Steps.looks c.apply.new.steps ≤ g.S.Count.Steps.looks c.args.steps.now + 8 * weight c.args.entry t) top c.apply.ensures.looks

pub returns-clause-fits : goal.returns-clause-fits
returns-clause-fits g c =
    let r = g.S.RecordSource.records in
    let from = layered_of (r c.args.base.now) c.args.entries.now.entries in
    let top : r c.newest.result.now ≡ view_of from = c.newest.ensures ∙ newest_is from.base (entries_of from.live) (shown r c.args.versions.now) c.requires.kept.versions in
    let v = c.in_ok-version.version in
    let made : r v.source ≡ apply c.args.entry (view_of from) = c.in_ok-version.ensures.records ∙ ap (apply c.args.entry) top in
    record {
      suits = (c.requires.free, made, subst (λ t. AreTouched t (r v.source) v.touched) top c.in_ok-version.ensures.touched);
      view = c.in_ok-view.ensures ∙ made ∙ sym (seen_begun from c.args.name c.args.entry);
    }

pub returns-clause-ids : goal.returns-clause-ids
returns-clause-ids g c =
    let r = g.S.RecordSource.records in
    let from = layered_of (r c.args.base.now) c.args.entries.now.entries in
    let top : r c.newest.result.now ≡ view_of from = c.newest.ensures ∙ newest_is from.base (entries_of from.live) (shown r c.args.versions.now) c.requires.kept.versions in
    let v = c.in_ok-version.version in
    let made : r v.source ≡ apply c.args.entry (view_of from) = c.in_ok-version.ensures.records ∙ ap (apply c.args.entry) top in
    let touched = subst (λ x. AreTouched (view_of from) x v.touched) made (subst (λ t. AreTouched t (r v.source) v.touched) top c.in_ok-version.ensures.touched) in
    subst (λ xs. AreChanged (view_of from) [] (c.args.entry ∷ []) xs) (sym c.in_ok-touched.ensures) (begun_ids (view_of from) c.args.entry v.touched touched)
