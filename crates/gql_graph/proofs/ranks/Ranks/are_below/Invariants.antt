-- Each so far is below.
use Rattle.std.proofs.Common.{drop}
use Rattle.gql_graph.specs.Ranks.{rank_in, AllBelow}
use Rattle.gql_graph.proofs.RankSteps.{texts}
use Rattle.gql_graph.proofs.ranks.Ranks.are_below.Given as goal

abbrev pub invariant-names : goal.invariant-names
invariant-names l = AllBelow (rank_in l.self) l.top (texts (drop l.one-index l.names)) → AllBelow (rank_in l.self) l.top (texts l.names)
