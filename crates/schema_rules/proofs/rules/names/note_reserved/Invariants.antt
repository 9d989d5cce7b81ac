-- What is noted and what is left are the whole.
use Rattle.std.proofs.Common.{◌≡◌, map, drop}
use Rattle.gql_graph.specs.Leasts.{least_from}
use Rattle.schema_trees.specs.LocatedView.{name_of}
use Rattle.schema_rules.specs.Rules as rules
use Rattle.schema_rules.proofs.rules.names.note_reserved.Given as goal

abbrev pub invariant-names : goal.invariant-names
invariant-names l = least_from l.least.at (rules.each rules.reserved_name (map name_of (drop l.name-index l.names))) ≡ least_from l.initial.least.at (rules.each rules.reserved_name (map name_of l.names))
