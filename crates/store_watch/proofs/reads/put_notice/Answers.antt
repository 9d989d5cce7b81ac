use Rattle.std.proofs.Common.{◌≡◌, ◌+◌, ◌≤◌, [], ◌∷◌, ◌++◌, append-nil, sym, ap, subst, ◌∙◌}
use Rattle.std.proofs.lemmas.List.{map-append}
use Rattle.std.specs.Option.{option_map_or}
use Rattle.plan_ir.specs.store_model.Walks.{standings}
use Rattle.store_read.specs.Reading.{slots}
use Rattle.store_watch.specs.Reads.{telling_at}
use Rattle.store_watch.specs.Rows.{look_of, telling_of, tellings_of}
use Rattle.store_watch.specs.Watching.{read_of}
use Rattle.store_watch.proofs.reads.put_notice.Goals as goal

pub returns-in_ok-push-in-Some-clause-notices : goal.returns-in_ok-push-in-Some-clause-notices
returns-in_ok-push-in-Some-clause-notices g c =
    let m = slots (g.S.RecordSource.records c.args.view.now) in
    let old = c.args.notices.now.items in
    let notice = c.in_ok-notice-in-Some.notice in
    ap tellings_of c.in_ok-push-in-Some.ensures.items ∙ map-append telling_of old (notice ∷ []) ∙ ap (λ t. tellings_of old ++ t ∷ []) c.in_ok-notice-in-Some.ensures.notice
    ∙ ap (λ o. tellings_of old ++ option_map_or (λ r. telling_at m c.args.place r ∷ []) o []) c.in-Some.ensures

pub returns-in_err-notice-in-Some-clause-looks : goal.returns-in_err-notice-in-Some-clause-looks
returns-in_err-notice-in-Some-clause-looks g c =
    let m = slots (g.S.RecordSource.records c.args.view.now) in
    subst (λ o. g.S.Count.Steps.looks c.read_row.new.steps ≤ g.S.Count.Steps.looks c.args.steps.now + option_map_or (λ r. standings (read_of m (look_of r.what))) o 0) c.in-Some.ensures c.read_row.ensures.looks

pub returns-in_err-push-in-Some-clause-looks : goal.returns-in_err-push-in-Some-clause-looks
returns-in_err-push-in-Some-clause-looks g c =
    let m = slots (g.S.RecordSource.records c.args.view.now) in
    subst (λ o. g.S.Count.Steps.looks c.read_row.new.steps ≤ g.S.Count.Steps.looks c.args.steps.now + option_map_or (λ r. standings (read_of m (look_of r.what))) o 0) c.in-Some.ensures c.read_row.ensures.looks

pub returns-in_ok-push-in-Some-clause-looks : goal.returns-in_ok-push-in-Some-clause-looks
returns-in_ok-push-in-Some-clause-looks g c =
    let m = slots (g.S.RecordSource.records c.args.view.now) in
    subst (λ o. g.S.Count.Steps.looks c.read_row.new.steps ≤ g.S.Count.Steps.looks c.args.steps.now + option_map_or (λ r. standings (read_of m (look_of r.what))) o 0) c.in-Some.ensures c.read_row.ensures.looks

pub returns-in-None-clause-notices : goal.returns-in-None-clause-notices
returns-in-None-clause-notices g c =
    let m = slots (g.S.RecordSource.records c.args.view.now) in
    let old = c.args.notices.now.items in
    sym (append-nil (tellings_of old)) ∙ ap (λ o. tellings_of old ++ option_map_or (λ r. telling_at m c.args.place r ∷ []) o []) c.in-None.ensures
