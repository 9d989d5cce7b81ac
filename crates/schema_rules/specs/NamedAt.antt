-- The places of names in lists.
use Rattle.std.specs.Prelude.{ℕ, List, Option, bytes_eq}
use Rattle.schema_trees.specs.Located.{FieldAt}
use Rattle.schema_trees.specs.schema_tables.Places.{first_at}
use Rattle.gql_graph.specs.Texts.{Text}

-- the place of the first field of a name
abbrev pub field_place : List FieldAt → Text → Option ℕ
field_place fs n = first_at (λ (f : FieldAt). bytes_eq f.name.name n) fs
