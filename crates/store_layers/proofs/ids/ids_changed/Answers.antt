use Rattle.std.proofs.Common.{◌++◌, ap, ◌∙◌}
use Rattle.store_update.specs.gql_plain.Order.{has_text}
use Rattle.store_update.proofs.Noted.{has_sorted}
use Rattle.store_layers.proofs.Changes.{gathered_has}
use Rattle.store_layers.proofs.ids.ids_changed.Goals as goal
use Rattle.store_layers.specs.Versions.{shown, touched_by}

pub returns : goal.returns
returns g c = λ id.
    let records = g.S.RecordSource.records in
    let first = c.args.first.now in
    let olds = shown records c.args.before.now in
    let news = shown records c.args.after.now in
    let whole = c.in_ok-note_versions-2.ensures ∙ ap (λ ids. ids ++ touched_by news) (c.in_ok-note_versions.ensures ∙ ap (λ ids. ids ++ touched_by olds) (c.in_ok-note_ids.ensures ∙ ap (λ ids. ids ++ first) c.new-ids.ensures.items)) in
    has_sorted _ c.in_ok-sorted.sorted c.in_ok-sorted.ensures id ∙ ap (λ ids. has_text ids id) whole ∙ gathered_has first olds news id
