-- What is located and what is left are the whole.
use Rattle.std.proofs.Common.{◌≡◌, ◌+◌, ◌++◌, map, drop}
use Rattle.schema_types.specs.schema_trees.Located.{directives_nodes}
use Rattle.schema_types.specs.Sites.{directives_at}
use Rattle.doc_sites.specs.SitesView.{directive_of}
use Rattle.doc_sites.proofs.parts.directives_at.Given as goal

abbrev pub invariant-directives : goal.invariant-directives
invariant-directives l =
    (map directive_of l.located.items ++ directives_at l.at (drop l.directive-index l.directive-items) ≡ directives_at l.initial.at l.directives)
    × (l.at + directives_nodes (drop l.directive-index l.directive-items) ≡ l.initial.at + directives_nodes l.directives)
