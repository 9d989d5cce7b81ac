-- One more name, and all of them.
use Rattle.std.proofs.Common.{◌<◌, [], get_or, subst, arith}
use Rattle.gql_graph.specs.Ranks.{rank_in, AllBelow}
use Rattle.gql_graph.specs.Texts.{Text}
use Rattle.gql_graph.proofs.RankSteps.{each_further, each_end, texts}
use Rattle.gql_graph.proofs.ranks.Ranks.are_below.Goals as goal

pub names-preserved : goal.names-preserved
names-preserved c =
    let is_below : rank_in c.args.self.now (get_or c.args.names.now c.names.one-index (record { ref_ptr = (0, 0); now = [] })).now < c.rank-top.result = grind (arith, c.rank.ensures) in
    each_further (λ (m : Text). rank_in c.args.self.now m < c.rank-top.result) c.args.names.now c.names.one-index (record { ref_ptr = (0, 0); now = [] }) (omega arith) is_below c.names.invariant

pub returns : goal.returns
returns c = λ is.
    subst (λ (top : _). AllBelow (rank_in c.args.self.now) top (texts c.args.names.now)) c.rank-top.ensures
    (each_end (λ (m : Text). rank_in c.args.self.now m < c.rank-top.result) c.args.names.now c.names.one-index (omega arith) c.names.invariant)
