-- What is noted and what is left are the whole.
use Rattle.std.proofs.Common.{◌≡◌, map, drop}
use Rattle.doc_uses.specs.schema_types.ArgumentRules as rules
use Rattle.gql_graph.specs.Rules.{each}
use Rattle.gql_graph.specs.Leasts.{least_from}
use Rattle.doc_uses.specs.doc_sites.SitesView.{directive_of}
use Rattle.doc_args.proofs.rules.directives.note_standing.Given as goal

abbrev pub invariant-directives : goal.invariant-directives
invariant-directives l =
    least_from l.least.at (each (rules.stands_wrong l.schema l.location) (map directive_of (drop l.directive-index l.directives))) ≡ least_from l.initial.least.at (each (rules.stands_wrong l.schema l.location) (map directive_of l.directives))
