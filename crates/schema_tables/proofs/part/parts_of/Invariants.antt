use Rattle.std.proofs.Common.{take}
use Rattle.schema_tables.proofs.part.parts_of.Given as goal
use Rattle.schema_tables.specs.TableParts.{AreParts}

abbrev pub invariant-definitions : goal.invariant-definitions
invariant-definitions l = AreParts (take l.definition-index l.definitions) l.parts.items
