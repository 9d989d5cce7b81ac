use Rattle.std.proofs.Common.{take}
use Rattle.schema_tables.proofs.members.FieldTable.new.Given as goal
use Rattle.schema_tables.specs.TableParts.{AreKept}

abbrev pub invariant-fields : goal.invariant-fields
invariant-fields l = AreKept (take l.field-index l.fields) l.kept.items l.arguments.items
