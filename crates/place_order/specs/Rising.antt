-- The order of places: by file, then by line, then by column (this project's own).
use Rattle.std.specs.Prelude.{◌≡◌, ◌⊎◌, ℕ, ◌<◌, ◌≤◌, List, Some}
use Rattle.plan_ir.specs.gql_ast.declared.place.FilePlace.{FilePlace}
use Rattle.text_places.specs.Naming.{element_at}

-- a place is before another one, or the same
abbrev pub IsNoLater : FilePlace → FilePlace → Type 0
IsNoLater a b = (a.file < b.file) ⊎ ((a.file ≡ b.file) × ((a.line < b.line) ⊎ ((a.line ≡ b.line) × (a.column ≤ b.column))))

-- of two nodes the one with the lower number is at the earlier place
abbrev pub Rise : List FilePlace → Type 0
Rise places = (m n : ℕ) (a b : FilePlace) → m ≤ n → element_at places m ≡ Some a → element_at places n ≡ Some b → IsNoLater a b
