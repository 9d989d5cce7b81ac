use Rattle.std.proofs.Common.{◌∙◌, length, ap, arith}
use Rattle.std.proofs.lemmas.List.{length-append}
use Rattle.store_conn.specs.store_model.Entries.{asked_by_edit}
use Rattle.store_update.proofs.Noted.{noted_puts, puts_few}
use Rattle.store_update.proofs.Weights.{command_most}
use Rattle.store_update.proofs.commands.put_edge.Goals as goal
use Rattle.store_update.specs.Touched.{ids_put}

pub returns-clause-records : goal.returns-clause-records
returns-clause-records g c = c.in_ok-after.ensures.records ∙ c.in_ok-changes.ensures.records

pub returns-clause-noted : goal.returns-clause-noted
returns-clause-noted g c = noted_puts c.in_ok-changes.changes.items _ _ _ _ c.in_ok-after.ensures.records c.in_ok-after.ensures.noted

pub returns-clause-few : goal.returns-clause-few
returns-clause-few g c =
    let changes = c.in_ok-changes.changes.items in
    let most = command_most (asked_by_edit c.args.edit.now (g.S.RecordSource.records c.args.draft.source)) in
    omega (arith, ap length c.in_ok-after.ensures.noted, length-append c.args.draft.noted.items (ids_put changes), puts_few changes, c.in_ok-changes.ensures.few, most)

pub returns-clause-looks : goal.returns-clause-looks
returns-clause-looks g c =
    let most = command_most (asked_by_edit c.args.edit.now (g.S.RecordSource.records c.args.draft.source)) in
    omega (arith, c.changes_of_insertion.ensures.looks, c.put_changes.ensures.looks, most)

pub returns-in_err-changes-clause-looks : goal.returns-in_err-changes-clause-looks
returns-in_err-changes-clause-looks g c =
    let most = command_most (asked_by_edit c.args.edit.now (g.S.RecordSource.records c.args.draft.source)) in
    omega (arith, c.changes_of_insertion.ensures.looks, most)

pub returns-in_err-after-clause-looks : goal.returns-in_err-after-clause-looks
returns-in_err-after-clause-looks g c =
    let most = command_most (asked_by_edit c.args.edit.now (g.S.RecordSource.records c.args.draft.source)) in
    omega (arith, c.changes_of_insertion.ensures.looks, c.put_changes.ensures.looks, most)
