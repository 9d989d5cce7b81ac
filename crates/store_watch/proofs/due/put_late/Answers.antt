use Rattle.std.proofs.Common.{◌≡◌, [], get_or, ap, subst}
use Rattle.std.proofs.lemmas.List.{drop_all}
use Rattle.store_watch.proofs.Found.{late_step}
use Rattle.store_watch.proofs.Held.{item_is}
use Rattle.store_watch.specs.Lists.{under}
use Rattle.store_watch.specs.Numbers.{IsComplete}
use Rattle.store_watch.specs.Rows.{seen_of}
use Rattle.store_watch.proofs.due.put_late.Goals as goal

pub late-preserved : goal.late-preserved
late-preserved c = (
  (λ i n h. c.put_row.ensures.grows i n (c.late.invariant.0 i n h)),
  λ all.
      late_step (under c.late.index.lists) (under c.put_row.new.index.lists) c.args.late.now c.late.number-index (get_or c.args.late.now c.late.number-index 0) (seen_of c.args.rows.now) c.late-test.true
      (item_is c.args.late.now c.late.number-index 0 c.late-test.true)
      c.put_row.ensures.grows c.in_ok-put_row.ensures.put (c.late.invariant.1 all),
)

pub returns-in_err-put_row-clause-grows : goal.returns-in_err-put_row-clause-grows
returns-in_err-put_row-clause-grows c i n h = c.put_row.ensures.grows i n (c.late.invariant.0 i n h)

pub returns-clause-complete : goal.returns-clause-complete
returns-clause-complete c = λ all.
    subst (λ ns. IsComplete (under c.late.index.lists) ns (seen_of c.args.rows.now)) (drop_all c.late.number-index c.args.late.now c.late-test.false) (c.late.invariant.1 all)

pub returns-clause-grows : goal.returns-clause-grows
returns-clause-grows c = c.late.invariant.0
