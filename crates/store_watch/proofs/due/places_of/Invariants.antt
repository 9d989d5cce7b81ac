use Rattle.std.proofs.Common.{◌≡◌, ◌<◌, ℕ, true, false, drop, length}
use Rattle.store_watch.specs.Numbers.{has, number_at}
use Rattle.store_watch.specs.Rows.{seen_of}
use Rattle.store_watch.proofs.due.places_of.Given as goal

abbrev pub invariant-numbers : goal.invariant-numbers
invariant-numbers l = (place : ℕ) → place < length l.rows → has l.numbers (number_at (seen_of l.rows) place) ≡ true
    → has (drop l.number-index l.numbers) (number_at (seen_of l.rows) place) ≡ false → has l.places.items place ≡ true
