-- Places in lists.
use Rattle.std.specs.Prelude.{ℕ, suc, Bool, cond, List, [], ◌∷◌, Option, Some, None, option_map}

-- the place of the first element that passes a test
abbrev pub first_at : {X : Type 0} → (X → Bool) → List X → Option ℕ
first_at passes [] = None
first_at passes (x ∷ xs) = cond (passes x) (Some 0) (option_map suc (first_at passes xs))

-- the first element that passes a test
abbrev pub first_that : {X : Type 0} → (X → Bool) → List X → Option X
first_that passes [] = None
first_that passes (x ∷ xs) = cond (passes x) (Some x) (first_that passes xs)

-- the place of a name, once this one is put: what was there counts first
abbrev pub first_place : Option ℕ → (is_this : Bool) → ℕ → Option ℕ
first_place (Some old) is_this at = Some old
first_place None is_this at = cond is_this (Some at) None
