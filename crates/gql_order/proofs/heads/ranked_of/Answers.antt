-- Each item is taken over with its rank.
use Rattle.std.proofs.Common.{◌≡◌, ◌++◌, List, [], ◌∷◌, rules, append_assoc, map, sym, ap, ◌∙◌, subst}
use Rattle.std.proofs.lemmas.List.{map_push}
use Rattle.std.proofs.lemmas.List.Elements.{All-nil, All-push}
use Rattle.gql_order.proofs.heads.ranked_of.Goals as goal
use Rattle.gql_order.specs.Ranks.{AllRanked, IsRank}
use Rattle.gql_order.specs.declared.heads.Ranked.{Ranked}

pub items-init : goal.items-init
items-init g c = (
  ap (λ (rs : List (Ranked g.row.T.Denot)). map (λ r. r.item) rs ++ c.into_iter-item-iterator.result.rest.items) c.in_ok-ranked.ensures.items ∙ c.into_iter-item-iterator.ensures.into_iter_gives.0,
  λ key reads. subst (AllRanked key c.args.start.now) (sym c.in_ok-ranked.ensures.items) (All-nil (λ r. IsRank c.args.start.now (key r.item) r.rank)),
)

pub items-preserved : goal.items-preserved
items-preserved g c =
    let before = c.items.ranked.items in
    let item = c.in-Some.item in
    let left = c.next.new.self.rest.items in
    let next : Ranked g.row.T.Denot = record { rank = c.rank_of-rank.result; item = item } in
    let pushed : c.push.new.self.items ≡ before ++ next ∷ [] = c.in_ok-push.ensures.items in
    let step : c.items.item-iterator.rest.items ≡ item ∷ left = search rules in (
      ap (λ rs. map (λ r. r.item) rs ++ left) pushed
          ∙ ap (λ ts. ts ++ left) (map_push (λ r. r.item) before next)
          ∙ append_assoc (map (λ r. r.item) before) (item ∷ []) left
          ∙ ap (λ ts. map (λ r. r.item) before ++ ts) (sym step)
          ∙ c.items.invariant.0,
      λ key reads.
          let is : IsRank c.args.start.now (key item) c.rank_of-rank.result = subst (λ text. IsRank c.args.start.now text c.rank_of-rank.result) (reads _ c.text.result c.text.ensures) c.rank_of-rank.ensures in
          subst (AllRanked key c.args.start.now) (sym pushed) (All-push (λ r. IsRank c.args.start.now (key r.item) r.rank) before next (c.items.invariant.1 key reads) is),
    )

pub returns-clause-ranks : goal.returns-clause-ranks
returns-clause-ranks g c = λ key reads. c.items.invariant.1 key reads
