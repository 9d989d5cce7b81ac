-- What is noted and counted of the fields so far.
use Rattle.std.proofs.Common.{map}
use Rattle.schema_trees.specs.LocatedView.{field_of}
use Rattle.schema_rules.proofs.WantedSteps.{Noted, found_differs}
use Rattle.schema_rules.proofs.rules.fields.note_found.Given as goal

abbrev pub invariant-fields : goal.invariant-fields
invariant-fields l = Noted (found_differs l.tables) (map field_of l.fields) l.wanted l.initial.least.at l.field-index l.at l.found l.least.at
