-- What is noted and what is left are the whole.
use Rattle.std.proofs.Common.{◌≡◌, map, drop}
use Rattle.doc_sites.specs.schema_types.FieldRules as rules
use Rattle.doc_sites.specs.gql_graph.Leasts.{least_from}
use Rattle.doc_sites.specs.schema_types.NameRules.{fragments}
use Rattle.doc_sites.specs.gql_graph.Rules.{each}
use Rattle.doc_sites.specs.SitesView.{definition_of}
use Rattle.doc_sites.specs.Definitions.{on_operation}
use Rattle.doc_fields.proofs.rules.subscriptions.note_subscriptions.Given as goal

abbrev pub invariant-definitions : goal.invariant-definitions
invariant-definitions l =
    least_from l.least.at (each (on_operation (rules.subscription_wrong l.schema (fragments (map definition_of l.definitions)))) (map definition_of (drop l.definition-index l.definitions)))
    ≡ least_from l.initial.least.at (rules.subscriptions_wrong l.schema (map definition_of l.definitions))
