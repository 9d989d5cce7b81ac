-- Bytes that come or go, where an object tells them. This project's own.
use Rattle.std.specs.Prelude.{ℕ, List, ◌++◌, Option, option_map}

-- bs, and then the bytes that are told
abbrev pub prepend : List ℕ → Option (List ℕ) → Option (List ℕ)
prepend bs told = option_map (λ xs. bs ++ xs) told

-- the bytes that are told, and then bs
abbrev pub append : Option (List ℕ) → List ℕ → Option (List ℕ)
append told bs = option_map (λ xs. xs ++ bs) told
