-- What is noted and what is left are the whole.
use Rattle.std.proofs.Common.{◌≡◌, map, drop}
use Rattle.doc_sites.specs.SitesView.{definition_of}
use Rattle.doc_sites.specs.gql_graph.Leasts.{least_from}
use Rattle.doc_sites.specs.schema_types.NameRules.{fragments}
use Rattle.doc_sites.specs.gql_graph.Rules.{each}
use Rattle.doc_names.specs.Cycles.{leads_back_in}
use Rattle.doc_sites.specs.Definitions.{on_fragment}
use Rattle.doc_names.proofs.rules.cycles.spreads_on_cycles.Given as goal

abbrev pub invariant-definitions : goal.invariant-definitions
invariant-definitions l =
    least_from l.least.at (each (on_fragment (leads_back_in (fragments (map definition_of l.definitions)))) (map definition_of (drop l.definition-index l.definitions)))
    ≡ least_from l.initial.least.at (each (on_fragment (leads_back_in (fragments (map definition_of l.definitions)))) (map definition_of l.definitions))
