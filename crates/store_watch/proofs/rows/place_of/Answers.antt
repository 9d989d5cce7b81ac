use Rattle.std.proofs.Common.{nat_cmp, rules}
use Rattle.std.proofs.lemmas.Fn.{always_returns_same}
use Rattle.store_watch.proofs.Lookups.{none_found, place_found}
use Rattle.store_watch.specs.declared.rows.Row.{Row}
use Rattle.store_watch.proofs.rows.place_of.Goals as goal

pub returns-in-Ok : goal.returns-in-Ok
returns-in-Ok c = λ place lt e.
    let facts = c.in-Ok.ensures in
    let equal = facts.position (λ (r : Row). nat_cmp r.number c.args.number) (always_returns_same _ _ _ (λ a r k called. (search rules, search rules))) in
    place_found c.args.rows.now c.in-Ok.place place c.args.number c.requires facts.bound equal lt e

pub returns-in-Err : goal.returns-in-Err
returns-in-Err c = λ place lt e.
    let parted = c.in-Err.ensures.position (λ (r : Row). nat_cmp r.number c.args.number) (always_returns_same _ _ _ (λ a r k called. (search rules, search rules))) in
    none_found c.args.rows.now _ place c.args.number c.requires parted lt e
