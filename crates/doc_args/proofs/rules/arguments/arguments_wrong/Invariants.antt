-- What is noted and what is left are the whole.
use Rattle.std.proofs.Common.{◌≡◌, map, drop}
use Rattle.doc_uses.specs.schema_types.ArgumentRules as rules
use Rattle.gql_graph.specs.Rules.{each}
use Rattle.gql_graph.specs.Leasts.{least_from}
use Rattle.doc_uses.specs.doc_sites.SitesView.{definition_of}
use Rattle.doc_args.proofs.rules.arguments.arguments_wrong.Given as goal

abbrev pub invariant-definitions : goal.invariant-definitions
invariant-definitions l =
    least_from l.least.at (each (λ d. each rules.arguments_of_call_wrong (rules.calls_of l.schema d)) (map definition_of (drop l.definition-index l.definitions))) ≡ least_from l.initial.least.at (each (λ d. each rules.arguments_of_call_wrong (rules.calls_of l.schema d)) (map definition_of l.definitions))
