-- Numbers that are kept in a set.
use Rattle.std.specs.Prelude.{◌≡◌, ℕ, List, Bool, nat_eq}
use Rattle.std.specs.BTreeSet.{BTreeSet, contains_by}
use Rattle.std.specs.List.{list_any}
use Rattle.std.specs.Ordering.{nat_cmp}

abbrev pub has_number : List ℕ → ℕ → Bool
has_number numbers number = list_any (λ k. nat_eq k number) numbers

-- the set has these numbers
abbrev pub Knows : BTreeSet ℕ → List ℕ → Type 0
Knows set numbers = (n : ℕ) → contains_by (λ k. nat_cmp n k) set ≡ has_number numbers n
