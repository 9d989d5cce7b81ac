-- What is put and what is left are the whole.
use Rattle.std.proofs.Common.{◌≡◌, ◌++◌, List, map, drop}
use Rattle.doc_sites.specs.gql_graph.Graphs.{Holds}
use Rattle.doc_sites.specs.gql_graph.Rules.{each}
use Rattle.doc_sites.specs.gql_graph.Texts.{Text}
use Rattle.doc_sites.specs.SitesView.{definition_of}
use Rattle.doc_sites.specs.Definitions.{on_fragment}
use Rattle.doc_fields.specs.Fragments.{leading, spreads_in}
use Rattle.doc_fields.proofs.spreads.spreads_of_each.Given as goal

abbrev pub invariant-definitions : goal.invariant-definitions
invariant-definitions l =
    (pairs : List (Text × List Text)) × Holds l.graph pairs
    × (pairs ++ each (on_fragment (leading (spreads_in l.schema l.root))) (map definition_of (drop l.definition-index l.definitions)) ≡ each (on_fragment (leading (spreads_in l.schema l.root))) (map definition_of l.definitions))
