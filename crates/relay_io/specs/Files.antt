-- The files that a vault tells: names and bytes, of which the first of one name counts. This
-- project's own.
use Rattle.std.specs.Prelude.{◌≡◌, ℕ, ◌<◌, List, length, Option, Some, None, ⊤, bytes_eq, IsSomeAnd}
use Rattle.std.specs.Map.{lookup}

-- the bytes of the first file of a name
abbrev pub file_of : List ℕ → List (List ℕ × List ℕ) → Option (List ℕ)
file_of name files = lookup (λ file. bytes_eq file name) files

-- the files, where they are told, have these bytes under the name
abbrev pub GivesFile : Option (List (List ℕ × List ℕ)) → List ℕ → List ℕ → Type 0
GivesFile None name bytes = ⊤
GivesFile (Some files) name bytes = file_of name files ≡ Some bytes

-- the files are told, and none has the name
abbrev pub IsAbsent : Option (List (List ℕ × List ℕ)) → List ℕ → Type 0
IsAbsent None name = ⊥
IsAbsent (Some files) name = file_of name files ≡ None

-- the files, where they are told, have more than limit bytes under the name
abbrev pub IsTooLong : Option (List (List ℕ × List ℕ)) → List ℕ → ℕ → Type 0
IsTooLong None name limit = ⊤
IsTooLong (Some files) name limit = IsSomeAnd (file_of name files) (λ bytes. limit < length bytes)
