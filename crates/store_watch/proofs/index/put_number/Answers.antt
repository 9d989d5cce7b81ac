use Rattle.std.proofs.Common.{◌≡◌, true, sym, subst}
use Rattle.store_watch.proofs.Held.{has_found, has_insert}
use Rattle.store_watch.specs.Numbers.{has}
use Rattle.store_watch.proofs.index.put_number.Goals as goal

pub returns-in-Ok-clause-put : goal.returns-in-Ok-clause-put
returns-in-Ok-clause-put c =
    subst (λ xs. has xs c.args.number ≡ true) c.deref.ensures.value (has_found c.deref.result.now c.in-Ok.field-0 c.args.number c.in-Ok.ensures.bound c.in-Ok.ensures.ok)

pub returns-in_ok-insert-in-Err-clause-grows : goal.returns-in_ok-insert-in-Err-clause-grows
returns-in_ok-insert-in-Err-clause-grows c n h =
    subst (λ xs. has xs n ≡ true) (sym c.in_ok-insert-in-Err.ensures.items) (has_insert c.args.list.now.items c.in-Err.place c.args.number n h)
