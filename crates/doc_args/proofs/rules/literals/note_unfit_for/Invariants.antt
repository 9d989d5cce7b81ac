-- What is noted and what is left are the whole.
use Rattle.std.proofs.Common.{◌≡◌, map, drop}
use Rattle.doc_uses.specs.schema_types.ArgumentRules as rules
use Rattle.gql_graph.specs.Rules.{each}
use Rattle.gql_graph.specs.Leasts.{least_from}
use Rattle.doc_uses.specs.doc_sites.SitesView.{argument_of}
use Rattle.doc_args.proofs.rules.literals.note_unfit_for.Given as goal

abbrev pub invariant-arguments : goal.invariant-arguments
invariant-arguments l =
    least_from l.least.at (each (rules.argument_unfit l.schema (rules.inputs l.inputs)) (map argument_of (drop l.argument-index l.arguments))) ≡ least_from l.initial.least.at (each (rules.argument_unfit l.schema (rules.inputs l.inputs)) (map argument_of l.arguments))
