use Rattle.std.proofs.Common.{◌≡◌, sym, subst}
use Rattle.std.proofs.lemmas.Result.{IfOk-weaker}
use Rattle.store_watch.proofs.Lookups.{each_put, none_here, seen_here}
use Rattle.store_watch.specs.Lists.{under}
use Rattle.store_watch.specs.Numbers.{StandsUnder}
use Rattle.store_watch.proofs.due.put_row.Goals as goal

pub returns-in-Some-clause-put : goal.returns-in-Some-clause-put
returns-in-Some-clause-put c =
    let t = under c.put_all.new.self.lists in
    let n = c.args.number in
    let rows = c.args.rows.now in
    IfOk-weaker c.put_all.result _ _ (λ _ stands. each_put t n rows (λ place lt e. subst (StandsUnder t n) (sym (seen_here rows place c.in-Some.row.now (c.in-Some.ensures place lt e))) stands)) c.put_all.ensures.put

pub returns-in-None-clause-put : goal.returns-in-None-clause-put
returns-in-None-clause-put c = each_put (under c.args.index.now.lists) c.args.number c.args.rows.now (λ place lt e. none_here c.args.rows.now place lt (c.in-None.ensures place lt e))
