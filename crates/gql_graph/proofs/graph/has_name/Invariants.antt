-- It is none of those so far.
use Rattle.std.proofs.Common.{◌≡◌, map, drop}
use Rattle.gql_plain.specs.Order.{has_text}
use Rattle.gql_graph.proofs.graph.has_name.Given as goal

abbrev pub invariant-names : goal.invariant-names
invariant-names l = has_text (map (λ n. n.now) (drop l.one-index l.names)) l.name ≡ has_text (map (λ n. n.now) l.names) l.name
