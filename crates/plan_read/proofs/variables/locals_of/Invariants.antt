-- What is put and what is left are the whole.
use Rattle.std.proofs.Common.{◌≡◌, ◌++◌, map, drop}
use Rattle.plan_ir.specs.gql_graph.Rules.{each}
use Rattle.plan_expand.specs.doc_sites.SitesView.{directive_of}
use Rattle.plan_ir.specs.relay_marks.Locals.{locals_at, locals_of}
use Rattle.plan_ir.specs.relay_marks.View.{local_view}
use Rattle.plan_read.proofs.variables.locals_of.Given as goal

abbrev pub invariant-directives : goal.invariant-directives
invariant-directives l = map local_view l.locals ++ each locals_at (map directive_of (drop l.directive-index l.directives)) ≡ locals_of (map directive_of l.directives)
