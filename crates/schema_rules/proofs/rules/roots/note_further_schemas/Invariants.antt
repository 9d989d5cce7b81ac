-- What is noted and what is left are the whole.
use Rattle.std.proofs.Common.{◌≡◌, false, map, drop}
use Rattle.gql_graph.specs.Leasts.{least_from}
use Rattle.schema_trees.specs.LocatedView.{def_of}
use Rattle.schema_rules.specs.Rules as rules
use Rattle.schema_rules.proofs.rules.roots.note_further_schemas.Given as goal

abbrev pub invariant-definitions : goal.invariant-definitions
invariant-definitions l = least_from l.least.at (rules.further_schemas l.seen (map def_of (drop l.definition-index l.definitions))) ≡ least_from l.initial.least.at (rules.further_schemas false (map def_of l.definitions))
