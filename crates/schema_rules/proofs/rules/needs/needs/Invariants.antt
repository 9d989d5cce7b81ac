-- What is put and what is left are the whole.
use Rattle.std.proofs.Common.{◌≡◌, ◌++◌, List, drop}
use Rattle.gql_graph.specs.Graphs.{Holds}
use Rattle.schema_rules.specs.Needing.{needing}
use Rattle.gql_graph.specs.Rules.{each}
use Rattle.gql_graph.specs.Texts.{Text}
use Rattle.schema_rules.proofs.rules.needs.needs.Given as goal

abbrev pub invariant-definitions : goal.invariant-definitions
invariant-definitions l =
    (pairs : List (Text × List Text)) × Holds l.graph pairs × (pairs ++ each needing (drop l.definition-index l.definition-items) ≡ each needing l.tables)
