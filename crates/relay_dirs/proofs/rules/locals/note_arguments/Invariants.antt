-- What is noted and what is left are the whole.
use Rattle.std.proofs.Common.{◌≡◌, map, drop}
use Rattle.constant_values.specs.gql_graph.Leasts.{least_from}
use Rattle.constant_values.specs.gql_graph.Rules.{each}
use Rattle.doc_uses.specs.doc_sites.SitesView.{argument_of}
use Rattle.relay_rules.specs.RelayRules as rules
use Rattle.relay_dirs.proofs.rules.locals.note_arguments.Given as goal

abbrev pub invariant-arguments : goal.invariant-arguments
invariant-arguments l =
    least_from l.least.at (each (rules.local_wrong l.schema) (map argument_of (drop l.argument-index l.arguments))) ≡ least_from l.initial.least.at (each (rules.local_wrong l.schema) (map argument_of l.arguments))
