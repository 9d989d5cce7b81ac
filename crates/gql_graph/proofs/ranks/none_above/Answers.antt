-- One more name, and all of them.
use Rattle.std.proofs.Common.{◌≤◌, [], get_or, arith}
use Rattle.gql_graph.specs.Ranks.{rank_in}
use Rattle.gql_graph.specs.Texts.{Text}
use Rattle.gql_graph.proofs.RankSteps.{each_further, each_end}
use Rattle.gql_graph.proofs.ranks.none_above.Goals as goal

pub names-preserved : goal.names-preserved
names-preserved c =
    let is_below : rank_in c.args.ranks.now (get_or c.args.names.now c.names.name-index (record { ref_ptr = (0, 0); now = [] })).now ≤ c.args.top = grind (arith, c.rank.ensures) in
    each_further (λ (m : Text). rank_in c.args.ranks.now m ≤ c.args.top) c.args.names.now c.names.name-index (record { ref_ptr = (0, 0); now = [] }) (omega arith) is_below c.names.invariant

pub returns : goal.returns
returns c = λ is. each_end (λ (m : Text). rank_in c.args.ranks.now m ≤ c.args.top) c.args.names.now c.names.name-index (omega arith) c.names.invariant
