use Rattle.std.proofs.Common.{option_map, ◌∙◌, arith}
use Rattle.store_model.specs.Updates.{connection_of}
use Rattle.store_conn.proofs.Cases.{deleted_found, asked_found}
use Rattle.store_conn.proofs.edit.changes_of_deletion.Goals as goal
use Rattle.store_conn.specs.Connections.{kept_of}

pub returns-clause-records : goal.returns-clause-records
returns-clause-records g c =
    let m = g.S.RecordSource.records c.args.source.now in
    let e = c.args.edit.now in
    c.in_ok-changes.ensures.records ∙ deleted_found e m (connection_of e m) (option_map kept_of c.in_ok-found.found) c.in_ok-found.ensures.found

pub returns-clause-looks : goal.returns-clause-looks
returns-clause-looks g c =
    let m = g.S.RecordSource.records c.args.source.now in
    let e = c.args.edit.now in
    let asked = asked_found e m (connection_of e m) (option_map kept_of c.in_ok-found.found) c.in_ok-found.ensures.found in
    omega (arith, asked, c.connection_of.ensures.looks, c.deleted.ensures.looks)

pub returns-in_err-changes-clause-looks : goal.returns-in_err-changes-clause-looks
returns-in_err-changes-clause-looks g c =
    let m = g.S.RecordSource.records c.args.source.now in
    let e = c.args.edit.now in
    let asked = asked_found e m (connection_of e m) (option_map kept_of c.in_ok-found.found) c.in_ok-found.ensures.found in
    omega (arith, asked, c.connection_of.ensures.looks, c.deleted.ensures.looks)
