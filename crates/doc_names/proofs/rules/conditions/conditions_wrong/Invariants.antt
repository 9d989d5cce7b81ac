-- What is noted and what is left are the whole.
use Rattle.std.proofs.Common.{◌≡◌, map, drop}
use Rattle.doc_sites.specs.SitesView.{definition_of}
use Rattle.doc_sites.specs.gql_graph.Leasts.{least_from}
use Rattle.doc_sites.specs.schema_types.NameRules as names
use Rattle.doc_names.proofs.rules.conditions.conditions_wrong.Given as goal

abbrev pub invariant-definitions : goal.invariant-definitions
invariant-definitions l = least_from l.least.at (names.conditions_wrong l.schema (map definition_of (drop l.definition-index l.definitions))) ≡ least_from l.initial.least.at (names.conditions_wrong l.schema (map definition_of l.definitions))
