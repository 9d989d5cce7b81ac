use Rattle.std.proofs.Common.{◌≡◌, ℕ, List, map, take}
use Rattle.schema_tables.proofs.places.places_of_objects.Given as goal
use Rattle.schema_tables.specs.Indexes.{pair_of, place_among}
use Rattle.schema_tables.specs.Objects.{names_object}
use Rattle.schema_tables.specs.Places.{first_at}

abbrev pub invariant-definitions : goal.invariant-definitions
invariant-definitions l = (n : List ℕ) → place_among (map pair_of l.pairs.items) n ≡ first_at (names_object n) (take l.at l.definitions)
