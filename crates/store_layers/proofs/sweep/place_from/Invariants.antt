use Rattle.std.proofs.Common.{length, ◌-◌, ◌≡◌, false, drop, List, ℕ}
use Rattle.std.specs.Cmp.Lexicographic.{slice_cmp}
use Rattle.std.specs.Ordering.{nat_cmp, is_lt}
use Rattle.store_update.specs.gql_plain.Order.{has_text}
use Rattle.store_layers.proofs.sweep.place_from.Given as goal

abbrev pub invariant-below : goal.invariant-below
invariant-below l = (q : List ℕ) → is_lt (slice_cmp nat_cmp q l.id) ≡ false → has_text (drop l.at l.ids) q ≡ has_text (drop l.from l.ids) q

abbrev pub decreases-below : goal.decreases-below
decreases-below l = length l.texts - l.at
