-- What is noted and what is left are the whole.
use Rattle.std.proofs.Common.{◌≡◌, map, drop}
use Rattle.constant_values.specs.gql_graph.Leasts.{least_from}
use Rattle.constant_values.specs.gql_graph.Rules.{each}
use Rattle.doc_uses.specs.doc_sites.SitesView.{definition_of}
use Rattle.relay_rules.specs.RelayRules as rules
use Rattle.constant_values.specs.schema_types.NameRules.{sites_of}
use Rattle.relay_dirs.proofs.rules.masks.masks_wrong.Given as goal

abbrev pub invariant-definitions : goal.invariant-definitions
invariant-definitions l =
    least_from l.least.at (each (λ d. each rules.masks_wrong_at (sites_of d)) (map definition_of (drop l.definition-index l.definitions))) ≡ least_from l.initial.least.at (each (λ d. each rules.masks_wrong_at (sites_of d)) (map definition_of l.definitions))
