-- Places in lists.
use Rattle.std.specs.Prelude.{ℕ, zero, suc, Bool, false, List, [], ◌∷◌, cond}

-- whether there is an element at the place that passes the test
abbrev pub passes_at : {X : Type 0} → (X → Bool) → List X → ℕ → Bool
passes_at test [] place = false
passes_at test (x ∷ xs) zero = test x
passes_at test (x ∷ xs) (suc place) = passes_at test xs place

-- the places of the elements that pass the test; the first element has the given one
abbrev pub places_from : {X : Type 0} → (X → Bool) → ℕ → List X → List ℕ
places_from test place [] = []
places_from test place (x ∷ xs) = cond (test x) (place ∷ places_from test (suc place) xs) (places_from test (suc place) xs)
