-- What is collected and what is left are the whole.
use Rattle.std.proofs.Common.{◌≡◌, ◌++◌, map, drop}
use Rattle.gql_graph.specs.Rules.{each}
use Rattle.doc_uses.specs.schema_trees.LocatedView.{name_of}
use Rattle.doc_uses.specs.doc_sites.SitesView.{directive_of}
use Rattle.doc_args.specs.Directives.{once_name}
use Rattle.doc_args.proofs.rules.directives.names_once.Given as goal

abbrev pub invariant-directives : goal.invariant-directives
invariant-directives l =
    map name_of l.names.items ++ each (once_name l.schema) (map directive_of (drop l.directive-index l.directives)) ≡ each (once_name l.schema) (map directive_of l.directives)
