-- What is collected and what is left are the whole.
use Rattle.std.proofs.Common.{◌≡◌, ◌++◌, List, map, drop}
use Rattle.gql_graph.specs.Graphs.{Tells}
use Rattle.gql_graph.specs.Rules.{each}
use Rattle.gql_graph.specs.Texts.{Text}
use Rattle.gql_graph.proofs.graph.Graph.next_of_each.Given as goal

abbrev pub invariant-names : goal.invariant-names
invariant-names l = (next : Text → List Text) → Tells l.self next
    → map (λ n. n.now) l.all.items ++ each next (map (λ n. n.now) (drop l.name-index l.names)) ≡ each next (map (λ n. n.now) l.names)
