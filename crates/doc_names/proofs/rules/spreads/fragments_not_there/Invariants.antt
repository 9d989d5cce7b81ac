-- What is noted and what is left are the whole.
use Rattle.std.proofs.Common.{◌≡◌, map, drop}
use Rattle.doc_sites.specs.SitesView.{definition_of}
use Rattle.doc_sites.specs.gql_graph.Leasts.{least_from}
use Rattle.doc_names.proofs.NameSteps.{not_there_in}
use Rattle.doc_names.proofs.rules.spreads.fragments_not_there.Given as goal

abbrev pub invariant-definitions : goal.invariant-definitions
invariant-definitions l = least_from l.least.at (not_there_in (map definition_of l.definitions) (map definition_of (drop l.definition-index l.definitions))) ≡ least_from l.initial.least.at (not_there_in (map definition_of l.definitions) (map definition_of l.definitions))
