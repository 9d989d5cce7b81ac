-- None so far is above.
use Rattle.std.proofs.Common.{drop}
use Rattle.gql_graph.specs.Ranks.{rank_in, NoneAbove}
use Rattle.gql_graph.proofs.RankSteps.{texts}
use Rattle.gql_graph.proofs.ranks.none_above.Given as goal

abbrev pub invariant-names : goal.invariant-names
invariant-names l = NoneAbove (rank_in l.ranks) l.top (texts (drop l.name-index l.names)) → NoneAbove (rank_in l.ranks) l.top (texts l.names)
