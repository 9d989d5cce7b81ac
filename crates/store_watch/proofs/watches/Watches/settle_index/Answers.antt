use Rattle.std.proofs.Common.{◌≡◌, sym, subst}
use Rattle.std.specs.Map.{values_of}
use Rattle.store_watch.specs.Lists.{under}
use Rattle.store_watch.specs.Rows.{IsSound, seen_of}
use Rattle.store_watch.proofs.watches.Watches.settle_index.Goals as goal

pub invariant_of-self : goal.invariant_of-self
invariant_of-self c =
    let inside = c.self.inside in
    subst (λ lists. IsSound (under lists) inside.late.items inside.all inside.next (seen_of (values_of inside.rows.entries))) (sym c.settle.ensures) c.self.invariant
