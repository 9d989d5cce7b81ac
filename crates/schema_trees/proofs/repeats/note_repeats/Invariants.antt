-- The set has the names so far; what is noted and what is left are the whole.
use Rattle.std.proofs.Common.{◌||◌, List, map, drop}
use Rattle.schema_tables.specs.gql_plain.Order.{has_text}
use Rattle.schema_tables.specs.gql_graph.Leasts.{least_from}
use Rattle.schema_tables.specs.gql_graph.Seen.{Knows}
use Rattle.schema_tables.specs.gql_graph.Texts.{Text}
use Rattle.schema_trees.specs.DefinitionParts.{repeats}
use Rattle.schema_trees.specs.LocatedView.{name_of}
use Rattle.schema_trees.proofs.RepeatSteps.{Noting, texts}
use Rattle.schema_trees.proofs.repeats.note_repeats.Given as goal

abbrev pub invariant-names : goal.invariant-names
invariant-names l = (before : List Text) → Knows l.initial.seen.names before
    → Noting l.seen.names l.least.at (drop l.name-index l.names) (least_from l.initial.least.at (repeats before (map name_of l.names))) (λ m. has_text before m || has_text (texts l.names) m)
