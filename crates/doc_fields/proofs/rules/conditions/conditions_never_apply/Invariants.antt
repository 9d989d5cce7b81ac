-- What is noted and what is left are the whole.
use Rattle.std.proofs.Common.{◌≡◌, map, drop}
use Rattle.doc_sites.specs.schema_types.FieldRules as rules
use Rattle.doc_sites.specs.gql_graph.Leasts.{least_from}
use Rattle.doc_sites.specs.schema_types.NameRules.{fragments, sites_of}
use Rattle.doc_sites.specs.gql_graph.Rules.{each}
use Rattle.doc_sites.specs.SitesView.{definition_of}
use Rattle.doc_fields.specs.Common.{AreCommon}
use Rattle.doc_fields.proofs.rules.conditions.conditions_never_apply.Given as goal

abbrev pub invariant-definitions : goal.invariant-definitions
invariant-definitions l =
    AreCommon l.schema l.common
    × (least_from l.least.at (each (λ d. each (rules.never_applies_at l.schema (fragments (map definition_of l.definitions))) (sites_of d)) (map definition_of (drop l.definition-index l.definitions)))
    ≡ least_from l.initial.least.at (each (λ d. each (rules.never_applies_at l.schema (fragments (map definition_of l.definitions))) (sites_of d)) (map definition_of l.definitions)))
