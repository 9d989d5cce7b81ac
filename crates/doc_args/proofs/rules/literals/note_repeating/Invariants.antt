-- What is noted and what is left are the whole.
use Rattle.std.proofs.Common.{◌≡◌, map, drop}
use Rattle.gql_graph.specs.Rules.{each}
use Rattle.gql_graph.specs.Leasts.{least_from}
use Rattle.doc_uses.specs.doc_sites.SitesView.{argument_of}
use Rattle.doc_args.specs.Literals.{repeating}
use Rattle.doc_args.proofs.rules.literals.note_repeating.Given as goal

abbrev pub invariant-arguments : goal.invariant-arguments
invariant-arguments l =
    least_from l.least.at (each repeating (map argument_of (drop l.argument-index l.arguments))) ≡ least_from l.initial.least.at (each repeating (map argument_of l.arguments))
