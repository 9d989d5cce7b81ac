-- What is put and what is left are the whole.
use Rattle.std.proofs.Common.{◌≡◌, ◌++◌, map, drop}
use Rattle.plan_ir.specs.gql_graph.Rules.{each}
use Rattle.plan_expand.specs.doc_sites.SitesView.{argument_of}
use Rattle.plan_ir.specs.relay_marks.Locals.{local_at}
use Rattle.plan_ir.specs.relay_marks.View.{local_view}
use Rattle.plan_read.proofs.variables.put_arguments.Given as goal

abbrev pub invariant-arguments : goal.invariant-arguments
invariant-arguments l = map local_view l.locals ++ each local_at (map argument_of (drop l.argument-index l.arguments)) ≡ map local_view l.initial.locals ++ each local_at (map argument_of l.arguments)
