use Rattle.std.proofs.Common.{◌+◌, ◌*◌, ◌≤◌, ◌++◌, ◌∷◌, [], sym, ap, ◌∙◌, subst}
use Rattle.store_update.specs.store_model.Entries.{weight}
use Rattle.store_layers.proofs.VersionSteps.{newest_is, pushed}
use Rattle.store_layers.proofs.fold.put_version.Goals as goal
use Rattle.store_layers.specs.Versions.{shown, newest, AreVersions}

pub returns-in_err-changed-clause-looks : goal.returns-in_err-changed-clause-looks
returns-in_err-changed-clause-looks g c = λ before h.
    let m = g.S.RecordSource.records c.args.base.now in
    let top = c.newest.ensures ∙ ap (λ vs. newest m (shown g.S.RecordSource.records vs)) c.deref.ensures.value ∙ newest_is m before (shown g.S.RecordSource.records c.args.versions.now.items) h in
    subst (λ t. g.S.Count.Steps.looks c.apply.new.steps ≤ g.S.Count.Steps.looks c.args.steps.now + 8 * weight c.args.entry.now t) top c.apply.ensures.looks

pub returns-in_err-push-clause-looks : goal.returns-in_err-push-clause-looks
returns-in_err-push-clause-looks g c = λ before h.
    let m = g.S.RecordSource.records c.args.base.now in
    let top = c.newest.ensures ∙ ap (λ vs. newest m (shown g.S.RecordSource.records vs)) c.deref.ensures.value ∙ newest_is m before (shown g.S.RecordSource.records c.args.versions.now.items) h in
    subst (λ t. g.S.Count.Steps.looks c.apply.new.steps ≤ g.S.Count.Steps.looks c.args.steps.now + 8 * weight c.args.entry.now t) top c.apply.ensures.looks

pub returns-clause-looks : goal.returns-clause-looks
returns-clause-looks g c = λ before h.
    let m = g.S.RecordSource.records c.args.base.now in
    let top = c.newest.ensures ∙ ap (λ vs. newest m (shown g.S.RecordSource.records vs)) c.deref.ensures.value ∙ newest_is m before (shown g.S.RecordSource.records c.args.versions.now.items) h in
    subst (λ t. g.S.Count.Steps.looks c.apply.new.steps ≤ g.S.Count.Steps.looks c.args.steps.now + 8 * weight c.args.entry.now t) top c.apply.ensures.looks

pub returns-clause-versions : goal.returns-clause-versions
returns-clause-versions g c = λ before h.
    let records = g.S.RecordSource.records in
    let m = records c.args.base.now in
    let top = c.newest.ensures ∙ ap (λ vs. newest m (shown records vs)) c.deref.ensures.value ∙ newest_is m before (shown records c.args.versions.now.items) h in
    subst (λ vs. AreVersions m (before ++ c.args.entry.now ∷ []) (shown records vs)) (sym c.in_ok-push.ensures.items)
    (pushed records m before c.args.entry.now c.args.versions.now.items c.in_ok-changed.changed (records c.newest.result.now) h top c.in_ok-changed.ensures.records c.in_ok-changed.ensures.touched)
