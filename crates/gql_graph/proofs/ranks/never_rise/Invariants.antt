-- Each name so far leads to none above it.
use Rattle.std.proofs.Common.{map}
use Rattle.gql_graph.specs.Ranks.{rank_in}
use Rattle.gql_graph.proofs.RankSteps.{BelowEach}
use Rattle.gql_graph.proofs.ranks.never_rise.Given as goal

abbrev pub invariant-links : goal.invariant-links
invariant-links l = BelowEach (rank_in l.ranks) (λ ns. map (λ n. n.now) ns.items) l.name-iterator → BelowEach (rank_in l.ranks) (λ ns. map (λ n. n.now) ns.items) l.graph.links.entries
