-- What is located and what is left are the whole.
use Rattle.std.proofs.Common.{◌≡◌, ◌+◌, ◌++◌, map, drop}
use Rattle.schema_types.specs.gql_ast.ValueView as tree
use Rattle.schema_types.specs.Sites.{arguments_at, arguments_nodes}
use Rattle.doc_sites.specs.SitesView.{argument_of}
use Rattle.doc_sites.proofs.parts.arguments_at.Given as goal

abbrev pub invariant-arguments : goal.invariant-arguments
invariant-arguments l =
    (map tree.argument_of l.argument-items ≡ l.arguments)
    × (map argument_of l.located.items ++ arguments_at l.at (map tree.argument_of (drop l.argument-index l.argument-items)) ≡ arguments_at l.initial.at l.arguments)
    × (l.at + arguments_nodes (map tree.argument_of (drop l.argument-index l.argument-items)) ≡ l.initial.at + arguments_nodes l.arguments)
