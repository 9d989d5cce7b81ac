-- The marks stand for the kinds before; what is noted and what is left are the whole.
use Rattle.std.proofs.Common.{◌≡◌, List, [], map, drop}
use Rattle.schema_trees.specs.gql_ast.declared.document.Kind.{Kind}
use Rattle.schema_rules.specs.Kinds.{KnowsKinds}
use Rattle.gql_graph.specs.Leasts.{least_from}
use Rattle.schema_trees.specs.LocatedView.{root_of}
use Rattle.schema_rules.specs.Rules.{repeated_kinds}
use Rattle.schema_rules.proofs.rules.roots.note_repeated_among.Given as goal

abbrev pub invariant-roots : goal.invariant-roots
invariant-roots l = (before : List Kind) × KnowsKinds l.kinds before
    × (least_from l.least.at (repeated_kinds before (map root_of (drop l.root-index l.roots))) ≡ least_from l.initial.least.at (repeated_kinds [] (map root_of l.roots)))
