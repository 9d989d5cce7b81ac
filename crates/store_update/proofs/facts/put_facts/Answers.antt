use Rattle.std.proofs.Common.{◌≡◌, Some, IfOk, sym, ap, subst, ◌∙◌}
use Rattle.std.proofs.lemmas.List.{nil_from_length}
use Rattle.std.specs.List.{list_all}
use Rattle.store_conn.specs.store_model.FactRows.{put_rows}
use Rattle.store_conn.specs.store_model.Updates.{act_all}
use Rattle.store_update.proofs.Turns.{last_is, none_goes_on, rows_push}
use Rattle.store_update.proofs.facts.put_facts.Goals as goal
use Rattle.store_update.specs.Turns.{goes_on, last_id}

pub put_both-requires : goal.put_both-requires
put_both-requires g c =
    let is : last_id c.args.rows.now ≡ Some c.in-Some.last.now.id = ap last_id c.in-Some.ensures.cases.0 ∙ last_is c.in-Some.before.now c.in-Some.last.now in
    ap (λ on. list_all (goes_on on) c.args.commands.now) (sym is) ∙ c.requires

pub returns-in-Some-clause-records : goal.returns-in-Some-clause-records
returns-in-Some-clause-records g c =
    let m = g.S.RecordSource.records c.args.draft.source in
    let put = sym (rows_push c.in-Some.before.now c.in-Some.last.now m) ∙ ap (λ rows. put_rows rows m) (sym c.in-Some.ensures.cases.0) in
    subst (λ r. IfOk c.put_both.result (λ d. g.S.RecordSource.records d.source ≡ act_all c.args.commands.now r)) put c.put_both.ensures.records

pub returns-in-None-clause-records : goal.returns-in-None-clause-records
returns-in-None-clause-records g c =
    let m = g.S.RecordSource.records c.args.draft.source in
    let none = nil_from_length c.args.rows.now c.in-None.ensures.cases in
    let nothing = none_goes_on c.args.commands.now (ap (λ rows. list_all (goes_on (last_id rows)) c.args.commands.now) (sym none) ∙ c.requires) in
    λ i. act_all (sym nothing i) (put_rows (sym none i) m)
