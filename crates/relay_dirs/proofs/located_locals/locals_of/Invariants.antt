-- What is put and what is left are the whole.
use Rattle.std.proofs.Common.{◌≡◌, ◌++◌, map, drop}
use Rattle.constant_values.specs.gql_graph.Rules.{each}
use Rattle.doc_uses.specs.doc_sites.SitesView.{directive_of}
use Rattle.relay_marks.specs.Locals.{locals_at, locals_of}
use Rattle.relay_marks.specs.View.{local_view}
use Rattle.relay_dirs.proofs.located_locals.locals_of.Given as goal

abbrev pub invariant-directives : goal.invariant-directives
invariant-directives l = map local_view l.locals ++ each locals_at (map directive_of (drop l.directive-index l.directives)) ≡ locals_of (map directive_of l.directives)
