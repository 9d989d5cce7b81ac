use Rattle.std.proofs.Common.{◌≡◌, None, take}
use Rattle.schema_tables.proofs.tables.directive_among.Given as goal
use Rattle.schema_tables.specs.Parts.{is_directive}
use Rattle.schema_tables.specs.Places.{first_at}

abbrev pub invariant-definitions : goal.invariant-definitions
invariant-definitions l = first_at (is_directive l.name) (take l.at l.definitions) ≡ None
