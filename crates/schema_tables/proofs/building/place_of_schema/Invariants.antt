use Rattle.std.proofs.Common.{◌≡◌, None, take}
use Rattle.schema_tables.proofs.building.place_of_schema.Given as goal
use Rattle.schema_tables.specs.Parts.{is_schema}
use Rattle.schema_tables.specs.Places.{first_at}

abbrev pub invariant-definitions : goal.invariant-definitions
invariant-definitions l = first_at is_schema (take l.at l.definitions) ≡ None
