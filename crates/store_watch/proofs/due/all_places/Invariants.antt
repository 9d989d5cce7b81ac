use Rattle.std.proofs.Common.{◌≡◌, ◌<◌, ℕ, true}
use Rattle.store_watch.specs.Numbers.{has}
use Rattle.store_watch.proofs.due.all_places.Given as goal

abbrev pub invariant-places : goal.invariant-places
invariant-places l = (n : ℕ) → n < l.at → has l.places.items n ≡ true
