use Rattle.std.proofs.Common.{arith}
use Rattle.store_model.specs.Entries.{asked_by_edit}
use Rattle.store_conn.proofs.Looks.{within_bound}
use Rattle.store_conn.proofs.edit.delete_edge.Goals as goal

pub returns-clause-looks : goal.returns-clause-looks
returns-clause-looks g c =
    within_bound _ _ 2 (asked_by_edit c.args.edit.now (g.S.RecordSource.records c.args.source.now)) (omega arith) (omega (arith, c.changes_of_deletion.ensures.looks, c.put_all.ensures.looks))

pub returns-in_err-changes-clause-looks : goal.returns-in_err-changes-clause-looks
returns-in_err-changes-clause-looks g c =
    within_bound _ _ 2 (asked_by_edit c.args.edit.now (g.S.RecordSource.records c.args.source.now)) (omega arith) (omega (arith, c.changes_of_deletion.ensures.looks))

pub returns-in_err-version-clause-looks : goal.returns-in_err-version-clause-looks
returns-in_err-version-clause-looks g c =
    within_bound _ _ 2 (asked_by_edit c.args.edit.now (g.S.RecordSource.records c.args.source.now)) (omega arith) (omega (arith, c.changes_of_deletion.ensures.looks))
