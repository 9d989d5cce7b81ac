-- What is put and what is left are the whole.
use Rattle.std.proofs.Common.{◌≡◌, ◌++◌, map, drop}
use Rattle.constant_values.specs.gql_graph.Rules.{each}
use Rattle.doc_uses.specs.doc_sites.SitesView.{argument_of}
use Rattle.relay_marks.specs.Locals.{local_at}
use Rattle.relay_marks.specs.View.{local_view}
use Rattle.relay_dirs.proofs.located_locals.put_arguments_at.Given as goal

abbrev pub invariant-arguments : goal.invariant-arguments
invariant-arguments l = map local_view l.locals ++ each local_at (map argument_of (drop l.argument-index l.arguments)) ≡ map local_view l.initial.locals ++ each local_at (map argument_of l.arguments)
