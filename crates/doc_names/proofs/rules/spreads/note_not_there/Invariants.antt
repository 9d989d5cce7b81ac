-- What is noted and what is left are the whole.
use Rattle.std.proofs.Common.{◌≡◌, List, map, drop}
use Rattle.doc_sites.specs.gql_graph.Leasts.{least_from}
use Rattle.doc_sites.specs.schema_trees.LocatedView.{name_of}
use Rattle.doc_sites.specs.schema_types.NameRules.{not_there}
use Rattle.doc_sites.specs.gql_graph.Rules.{each}
use Rattle.doc_sites.specs.gql_graph.Seen.{Knows}
use Rattle.doc_sites.specs.gql_graph.Texts.{Text}
use Rattle.doc_names.proofs.rules.spreads.note_not_there.Given as goal

abbrev pub invariant-spreads : goal.invariant-spreads
invariant-spreads l = (ns : List Text) → Knows l.there.names ns
    → least_from l.least.at (each (not_there ns) (map name_of (drop l.spread-index l.spreads))) ≡ least_from l.initial.least.at (each (not_there ns) (map name_of l.spreads))
