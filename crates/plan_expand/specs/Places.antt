-- The places of the selections of a definition, as they stand ready.
use Rattle.std.specs.Prelude.{ℕ, ◌-◌, List, map, Option, Some, None}
use Rattle.plan_ir.specs.gql_ast.declared.place.FilePlace.{FilePlace}
use Rattle.plan_ir.specs.Projects.{Places}
use Rattle.plan_ir.specs.schema_trees.Located.{Located}
use Rattle.plan_ir.specs.schema_types.Sites.{Site, field, spread, inline}

-- the number of the node of a field: the one before its first name
abbrev pub field_number : (alias : Option Located) → Located → ℕ
field_number None n = n.at - 1
field_number (Some a) n = a.at - 1

abbrev pub site_number : Site → ℕ
site_number (field around a n xs ds has_set) = field_number a n
site_number (spread around n ds) = n.at - 1
site_number (inline around first on ds) = first

abbrev pub site_place : (place : ℕ → FilePlace) → Site → FilePlace
site_place place s = place (site_number s)

abbrev pub site_places_in : (place : ℕ → FilePlace) → List Site → Places
site_places_in place ss = map (site_place place) ss
