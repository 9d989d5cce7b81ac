-- The least of the places that were noted.
use Rattle.std.specs.Prelude.{ℕ, List, [], ◌∷◌, Option, Some, None, min}

abbrev pub lower : Option ℕ → ℕ → ℕ
lower None n = n
lower (Some m) n = min m n

-- the least place, where one may have been noted before
abbrev pub least_from : Option ℕ → List ℕ → Option ℕ
least_from before [] = before
least_from before (n ∷ ns) = least_from (Some (lower before n)) ns
