-- What is put and what is left are the whole.
use Rattle.std.proofs.Common.{◌≡◌, ◌++◌, map, drop}
use Rattle.doc_uses.specs.schema_types.ArgumentRules as rules
use Rattle.gql_graph.specs.Rules.{each}
use Rattle.doc_uses.specs.doc_sites.SitesView.{argument_of}
use Rattle.doc_uses.specs.UseView.{use_of}
use Rattle.doc_args.proofs.uses.put_known.Given as goal

abbrev pub invariant-arguments : goal.invariant-arguments
invariant-arguments l =
    map use_of l.uses.items ++ each (rules.uses_of_argument l.schema (rules.inputs l.inputs)) (map argument_of (drop l.argument-index l.arguments)) ≡ map use_of l.initial.uses.items ++ each (rules.uses_of_argument l.schema (rules.inputs l.inputs)) (map argument_of l.arguments)
