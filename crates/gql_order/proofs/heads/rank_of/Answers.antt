-- A text that does not begin so stands before those that do, or behind them.
use Rattle.std.proofs.Common.{◌≡◌, rules, subst}
use Rattle.gql_order.proofs.RankLaws.{side_rank, start_rank}
use Rattle.gql_order.proofs.heads.rank_of.Goals as goal
use Rattle.gql_order.specs.Ranks.{IsRank}

pub returns-in-Some : goal.returns-in-Some
returns-in-Some c =
    let bytes : c.as_bytes-bytes.result.now ≡ c.args.text.now = search rules in
    subst (λ text. IsRank c.args.start.now text c.head_of.result) bytes
    (start_rank c.args.start.now c.as_bytes-bytes.result.now c.in-Some.rest.now c.head_of.result c.in-Some.ensures.cases.0 c.in-Some.ensures.cases.1 c.head_of.ensures)

pub returns-in-None : goal.returns-in-None
returns-in-None c =
    let bytes : c.as_bytes-bytes.result.now ≡ c.args.text.now = search rules in
    subst (λ text. IsRank c.args.start.now text c.head_of-in-None.result) bytes
    (side_rank c.args.start.now c.as_bytes-bytes.result.now c.side_of.result c.head_of-in-None.result c.in-None.ensures.cases c.side_of.ensures c.head_of-in-None.ensures)
