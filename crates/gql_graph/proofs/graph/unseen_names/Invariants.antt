-- What is put and what is left are the whole.
use Rattle.std.proofs.Common.{List, map, drop, ◌||◌}
use Rattle.gql_plain.specs.Order.{has_text}
use Rattle.gql_graph.specs.Graphs.{unseen_names}
use Rattle.gql_graph.specs.Seen.{Knows}
use Rattle.gql_graph.specs.Texts.{Text}
use Rattle.gql_graph.proofs.Searching.{Puts}
use Rattle.gql_graph.proofs.graph.unseen_names.Given as goal

abbrev pub invariant-names : goal.invariant-names
invariant-names l = (ns : List Text) → Knows l.initial.seen.names ns
    → Puts l.seen.names (map (λ n. n.now) l.rest.items) (map (λ n. n.now) (drop l.name-index l.names)) (unseen_names ns (map (λ n. n.now) l.names)) (λ m. has_text ns m || has_text (map (λ n. n.now) l.names) m)
