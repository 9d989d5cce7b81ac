-- What is noted and what is left are the whole.
use Rattle.std.proofs.Common.{◌≡◌, map, drop}
use Rattle.gql_graph.specs.Leasts.{least_from}
use Rattle.schema_trees.specs.LocatedView.{name_of}
use Rattle.schema_rules.specs.Rules as rules
use Rattle.schema_rules.proofs.rules.interfaces.note_cannot_implement.Given as goal

abbrev pub invariant-interfaces : goal.invariant-interfaces
invariant-interfaces l = least_from l.least.at (rules.each (rules.cannot_implement l.tables l.name) (map name_of (drop l.interface-index l.interfaces))) ≡ least_from l.initial.least.at (rules.each (rules.cannot_implement l.tables l.name) (map name_of l.interfaces))
