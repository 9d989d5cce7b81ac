-- What is noted and what is left are the whole.
use Rattle.std.proofs.Common.{◌≡◌, map, drop}
use Rattle.gql_graph.specs.Leasts.{least_from}
use Rattle.schema_trees.specs.LocatedView.{name_of, field_of}
use Rattle.schema_rules.specs.Rules as rules
use Rattle.schema_rules.proofs.rules.fields.note_lacks.Given as goal

abbrev pub invariant-interfaces : goal.invariant-interfaces
invariant-interfaces l = least_from l.least.at (rules.each (rules.lacks_of_interface l.tables (name_of l.name) (map field_of l.fields)) (map name_of (drop l.interface-index l.interfaces))) ≡ least_from l.initial.least.at (rules.each (rules.lacks_of_interface l.tables (name_of l.name) (map field_of l.fields)) (map name_of l.interfaces))
