-- What is put and what is left are the whole.
use Rattle.std.proofs.Common.{◌≡◌, ◌++◌, map, drop}
use Rattle.gql_graph.specs.Rules.{each}
use Rattle.doc_uses.specs.doc_sites.SitesView.{argument_of}
use Rattle.doc_uses.specs.UseView.{use_of}
use Rattle.doc_args.specs.UsesIn.{uses_unknown}
use Rattle.doc_args.proofs.uses.put_unknown.Given as goal

abbrev pub invariant-arguments : goal.invariant-arguments
invariant-arguments l =
    map use_of l.uses.items ++ each (uses_unknown l.schema) (map argument_of (drop l.argument-index l.arguments)) ≡ map use_of l.initial.uses.items ++ each (uses_unknown l.schema) (map argument_of l.arguments)
