-- What is collected and what is left are the whole.
use Rattle.std.proofs.Common.{◌≡◌, ◌++◌, map, drop}
use Rattle.schema_types.specs.gql_graph.Rules.{each}
use Rattle.schema_types.specs.schema_trees.LocatedView.{name_of}
use Rattle.doc_sites.specs.SitesView.{directive_of}
use Rattle.doc_sites.specs.Locals.{located_locals}
use Rattle.doc_sites.proofs.locals.locals_of.Given as goal

abbrev pub invariant-directives : goal.invariant-directives
invariant-directives l =
    map name_of l.names.items ++ each located_locals (map directive_of (drop l.directive-index l.directives)) ≡ each located_locals (map directive_of l.directives)
