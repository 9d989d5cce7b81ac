-- What is put and what is left are the whole.
use Rattle.std.proofs.Common.{◌≡◌, ◌++◌, List, drop}
use Rattle.doc_sites.specs.SitesView.{definition_of}
use Rattle.schema_types.specs.gql_graph.Graphs.{Holds}
use Rattle.schema_types.specs.gql_graph.Rules.{each}
use Rattle.schema_types.specs.gql_graph.Texts.{Text}
use Rattle.doc_sites.specs.Definitions.{spreading}
use Rattle.doc_sites.proofs.spreads.spread_graph.Given as goal

abbrev pub invariant-definitions : goal.invariant-definitions
invariant-definitions l =
    (pairs : List (Text × List Text)) × Holds l.graph pairs × (pairs ++ each (λ d. spreading (definition_of d)) (drop l.definition-index l.definitions) ≡ each (λ d. spreading (definition_of d)) l.definitions)
