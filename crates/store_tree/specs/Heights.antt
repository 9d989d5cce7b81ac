-- The heights of a balanced tree.
use Rattle.std.specs.Prelude.{◌≡◌, ℕ, zero, suc, ◌+◌, ◌≤◌, max}

-- the least number of entries of a balanced tree of this height
unfoldable pub least : ℕ → ℕ
least zero = 0
least (suc zero) = 1
least (suc (suc h)) = least (suc h) + least h + 1

-- neither height is more than this above the other
abbrev pub DifferByAtMost : ℕ → ℕ → ℕ → Type 0
DifferByAtMost by l r = (l ≤ r + by) × (r ≤ l + by)

-- the height h of what a node with sides l and r settles to
abbrev pub IsSettledHeight : ℕ → ℕ → ℕ → Type 0
IsSettledHeight l r h = (max l r ≤ h) × (h ≤ max l r + 1) × (DifferByAtMost 1 l r → h ≡ max l r + 1)

-- the height h is the one before, or one more
abbrev pub IsGrown : ℕ → ℕ → Type 0
IsGrown before h = (before ≤ h) × (h ≤ before + 1)

-- the height h is the one before, or one less
abbrev pub IsShrunk : ℕ → ℕ → Type 0
IsShrunk before h = (h ≤ before) × (before ≤ h + 1)
