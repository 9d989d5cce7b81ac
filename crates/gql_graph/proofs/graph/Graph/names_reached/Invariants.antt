-- What is found so far, and the same as a list, in which each name stands once.
use Rattle.std.proofs.Common.{List, map}
use Rattle.gql_graph.specs.Graphs.{Once, Tells}
use Rattle.gql_graph.specs.Seen.{Knows}
use Rattle.gql_graph.specs.Texts.{Text}
use Rattle.gql_graph.proofs.Searching.{Sought}
use Rattle.gql_graph.proofs.graph.Graph.names_reached.Given as goal

abbrev pub invariant-steps : goal.invariant-steps
invariant-steps l =
    Knows l.seen.names (map (λ n. n.now) l.all.items)
    × Once (map (λ n. n.now) l.all.items)
    × ((next : Text → List Text) → Tells l.self next → Sought next l.steps (map (λ n. n.now) l.starts) l.seen.names (map (λ n. n.now) l.frontier.items) l.counter)
