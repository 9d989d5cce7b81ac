-- Rules, each as the list of the places where it does not hold.
use Rattle.std.specs.Prelude.{ℕ, Bool, true, false, min, List, [], ◌∷◌, ◌++◌, Option, Some, None, option_map}

abbrev pub each : {A B : Type 0} → (A → List B) → List A → List B
each f [] = []
each f (a ∷ more) = f a ++ each f more

-- the place, where something is wrong there
abbrev pub wrong : Bool → ℕ → List ℕ
wrong true at = at ∷ []
wrong false at = []

-- ---- the first rule that does not hold, and the least place where it does not

abbrev pub least : List ℕ → Option ℕ
least [] = None
least (n ∷ ns) = Some (least_of n (least ns)) where
  least_of : ℕ → Option ℕ → ℕ
  least_of n None = n
  least_of n (Some m) = min n m

abbrev pub first_broken : {R : Type 0} → List (R × List ℕ) → Option (R × ℕ)
first_broken [] = None
first_broken ((r, []) ∷ rs) = first_broken rs
first_broken ((r, n ∷ ns) ∷ rs) = option_map (λ at. (r, at)) (least (n ∷ ns))

-- the same, where one of the rules before may have been found
abbrev pub first_from : {R : Type 0} → Option (R × ℕ) → List (R × List ℕ) → Option (R × ℕ)
first_from None rs = first_broken rs
first_from (Some found) rs = Some found
