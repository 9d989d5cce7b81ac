-- What is counted and what is left are the whole; the names that are passed are seen.
use Rattle.std.proofs.Common.{◌≡◌, ◌+◌, ◌≤◌, List, [], map, drop}
use Rattle.gql_graph.specs.Seen.{Knows}
use Rattle.gql_graph.specs.Texts.{Text}
use Rattle.doc_uses.specs.schema_rules.Rules.{names_of}
use Rattle.doc_uses.specs.schema_tables.Required.{required_names}
use Rattle.doc_uses.specs.schema_trees.LocatedView.{name_of}
use Rattle.doc_args.proofs.rules.required.count_required.Given as goal
use Rattle.doc_args.specs.GivenNames.{count_new}

abbrev pub invariant-names : goal.invariant-names
invariant-names l = (before : List Text) × Knows l.seen.names before
    × ((l.count + count_new (required_names l.inputs) before (names_of (map name_of (drop l.name-index l.names)))) ≡ count_new (required_names l.inputs) [] (names_of (map name_of l.names)))
    × (l.count ≤ l.name-index)
