-- What is noted and what is left are the whole.
use Rattle.std.proofs.Common.{◌≡◌, List, map, drop}
use Rattle.doc_sites.specs.gql_graph.Graphs.{Tells}
use Rattle.doc_sites.specs.gql_graph.Leasts.{least_from}
use Rattle.doc_sites.specs.schema_trees.LocatedView.{name_of}
use Rattle.doc_sites.specs.gql_graph.Texts.{Text}
use Rattle.doc_names.specs.Cycles.{leading_back}
use Rattle.doc_sites.specs.gql_graph.Ranks.{rank_in, NeverRises}
use Rattle.doc_names.proofs.rules.cycles.note_leading_back.Given as goal

abbrev pub invariant-spreads : goal.invariant-spreads
invariant-spreads l = (next : Text → List Text) → Tells l.graph next → NeverRises (rank_in l.ranks) next
    → least_from l.least.at (leading_back next l.steps l.to (map name_of (drop l.spread-index l.spreads))) ≡ least_from l.initial.least.at (leading_back next l.steps l.to (map name_of l.spreads))
