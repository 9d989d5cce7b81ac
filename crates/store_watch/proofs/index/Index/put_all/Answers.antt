use Rattle.std.proofs.Common.{◌≡◌, ◌≤◌, ℕ, sym, ap, subst, ◌∙◌, drop, length}
use Rattle.store_watch.proofs.Held.{stands_step, stands_end}
use Rattle.store_watch.specs.Lists.{under}
use Rattle.store_watch.proofs.index.Index.put_all.Goals as goal

pub ids-preserved : goal.ids-preserved
ids-preserved c = (
  (λ i n h. c.put.ensures.grows i n (c.ids.invariant.0 i n h)),
  λ t grows rest.
      c.ids.invariant.1 t (λ i n h. grows i n (c.put.ensures.grows i n h))
      (stands_step t c.args.number c.as_slice-id-items.result.now c.args.ids.now c.ids.id-index c.id-item.result c.as_str.result.now c.as_slice-id-items.ensures c.ids-test.true c.id-item.is
      c.as_str.ensures (grows _ c.args.number c.in_ok-put.ensures.put) rest),
)

pub returns-in_err-put-clause-grows : goal.returns-in_err-put-clause-grows
returns-in_err-put-clause-grows c i n h = c.put.ensures.grows i n (c.ids.invariant.0 i n h)

pub returns-clause-put : goal.returns-clause-put
returns-clause-put c =
    c.ids.invariant.1 (under c.ids.self.lists) (λ i n h. h)
    (stands_end (under c.ids.self.lists) c.args.number c.args.ids.now c.ids.id-index (subst (λ xs. length xs ≤ c.ids.id-index) c.as_slice-id-items.ensures c.ids-test.false))

pub returns-clause-grows : goal.returns-clause-grows
returns-clause-grows c = c.ids.invariant.0
