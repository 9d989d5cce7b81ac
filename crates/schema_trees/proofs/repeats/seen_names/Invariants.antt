-- The set has the names so far.
use Rattle.std.proofs.Common.{◌≡◌, ◌||◌, List, map, drop}
use Rattle.schema_tables.specs.gql_plain.Order.{has_text}
use Rattle.schema_trees.specs.LocatedView.{name_of}
use Rattle.schema_trees.specs.DefinitionParts.{names_of}
use Rattle.schema_tables.specs.gql_graph.Seen.{Knows}
use Rattle.schema_tables.specs.gql_graph.Texts.{Text}
use Rattle.schema_trees.proofs.repeats.seen_names.Given as goal

abbrev pub invariant-names : goal.invariant-names
invariant-names l = (before : List Text) × Knows l.seen.names before
    × ((n : Text) → (has_text before n || has_text (names_of (map name_of (drop l.name-index l.names))) n) ≡ has_text (names_of (map name_of l.names)) n)
