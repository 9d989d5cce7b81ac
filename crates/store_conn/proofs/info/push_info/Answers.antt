use Rattle.std.proofs.Common.{Some, arith, option_copied, sym, ap, ◌∙◌}
use Rattle.store_model.specs.Merge.{info_id}
use Rattle.store_conn.proofs.Looks.{one_more}
use Rattle.store_conn.proofs.Merges.{info_put}
use Rattle.store_conn.proofs.info.push_info.Goals as goal

pub returns-in_ok-push-in-Some-clause-records : goal.returns-in_ok-push-in-Some-clause-records
returns-in_ok-push-in-Some-clause-records c = λ m.
    let found = ap option_copied c.in-Some.is ∙ ap Some (sym c.get.ensures) in
    info_put (info_id c.args.connection.now.id) c.in_ok-id-in-Some.id c.args.key.now c.args.other.now (option_copied c.args.server) (option_copied c.args.info) c.get.result.now
    c.in_ok-row-in-Some.row c.in_ok-change-in-Some.change c.args.changes.now.items c.push.new.self.items m
    c.in_ok-id-in-Some.ensures c.in_ok-row-in-Some.ensures c.in_ok-change-in-Some.ensures c.in_ok-push-in-Some.ensures.items found

pub returns-in_ok-push-in-Some-clause-few : goal.returns-in_ok-push-in-Some-clause-few
returns-in_ok-push-in-Some-clause-few c = omega (arith, one_more _ _ _ c.in_ok-push-in-Some.ensures.items)
