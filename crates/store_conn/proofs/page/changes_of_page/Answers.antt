use Rattle.std.proofs.Common.{◌≡◌, length, ap, ◌∙◌, arith}
use Rattle.store_model.specs.Entries.{asked_of_parent}
use Rattle.store_model.specs.Merge.{of_parent}
use Rattle.store_model.specs.Records.{live}
use Rattle.store_conn.proofs.page.changes_of_page.Goals as goal

pub returns-clause-records : goal.returns-clause-records
returns-clause-records g c =
    let m = g.S.RecordSource.records c.args.source.now in
    c.in_ok-changes.ensures.records ∙ ap (λ p. of_parent c.args.handle.now p m) (c.live-parent.ensures.found ∙ ap (λ id. live id m) c.as_str.ensures)

pub returns-clause-few : goal.returns-clause-few
returns-clause-few g c =
    let m = g.S.RecordSource.records c.args.source.now in
    let asked = ap (λ p. length (asked_of_parent c.args.handle.now p m).edges) (c.live-parent.ensures.found ∙ ap (λ id. live id m) c.as_str.ensures) in
    omega (arith, asked, c.in_ok-changes.ensures.few)

pub returns-clause-looks : goal.returns-clause-looks
returns-clause-looks g c =
    let m = g.S.RecordSource.records c.args.source.now in
    let asked = ap (λ p. length (asked_of_parent c.args.handle.now p m).edges) (c.live-parent.ensures.found ∙ ap (λ id. live id m) c.as_str.ensures) in
    omega (arith, asked, c.live-parent.ensures.looks, c.of_parent.ensures.looks)

pub returns-in_err-changes-clause-looks : goal.returns-in_err-changes-clause-looks
returns-in_err-changes-clause-looks g c =
    let m = g.S.RecordSource.records c.args.source.now in
    let asked = ap (λ p. length (asked_of_parent c.args.handle.now p m).edges) (c.live-parent.ensures.found ∙ ap (λ id. live id m) c.as_str.ensures) in
    omega (arith, asked, c.live-parent.ensures.looks, c.of_parent.ensures.looks)
