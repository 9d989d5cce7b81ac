-- Where a key stands, or would stand, among pairs in the order of their keys.
use Rattle.std.specs.Prelude.{◌≡◌, ℕ, ◌<◌, ◌≤◌, List, [], ◌∷◌, ◌++◌, take, drop, length, HoldsAt, Result, Ok, Err, Option, Some, None}
use Rattle.std.specs.declared.cmp.Ordering.{Ordering}
use Rattle.std.specs.declared.cmp.Ordering.TheVariants.{Less, Equal, Greater}
use Rattle.store_tree.specs.KeyOrder.{key_cmp}

-- the key comes after each key of the list
abbrev pub Passes : {K X : Type 0} → (K → K → Ordering) → K → List (K × X) → Type 0
Passes R key [] = Unit {0}
Passes R key (pair ∷ pairs) = (R key pair.0 ≡ Greater) × Passes R key pairs

-- the key comes before each key of the list
abbrev pub Precedes : {K X : Type 0} → (K → K → Ordering) → K → List (K × X) → Type 0
Precedes R key [] = Unit {0}
Precedes R key (pair ∷ pairs) = (R key pair.0 ≡ Less) × Precedes R key pairs

-- Ok at: the pair there has the key. Err at: the key comes after the first `at` pairs and before the others
abbrev pub IsPlace : {V : Type 0} → List ℕ → List (List ℕ × V) → Result ℕ ℕ → Type 0
IsPlace key pairs (Ok at) = (at < length pairs) × HoldsAt (λ pair. key_cmp key pair.0 ≡ Equal) pairs at
IsPlace key pairs (Err at) = (at ≤ length pairs) × Passes key_cmp key (take at pairs) × Precedes key_cmp key (drop at pairs)

-- there is one pair at least, and at most so many
abbrev pub HasUpTo : {V : Type 0} → ℕ → List (List ℕ × V) → Type 0
HasUpTo most pairs = (1 ≤ length pairs) × (length pairs ≤ most)

-- what a leaf has kept of its pairs and what it has given back: none, or a pair and those after it
abbrev pub IsPut : {V : Type 0} → List (List ℕ × V) → List (List ℕ × V) → ℕ → Option ((List ℕ × V) × List (List ℕ × V)) → Type 0
IsPut pairs kept most None = (kept ≡ pairs) × HasUpTo most kept
IsPut pairs kept most (Some (middle, later)) = (kept ++ middle ∷ later ≡ pairs) × HasUpTo most kept × HasUpTo most later
