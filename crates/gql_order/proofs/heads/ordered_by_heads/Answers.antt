-- Where the ranks rise, the texts do.
use Rattle.std.proofs.Common.{◌≡◌, rules, map, sym, subst, subst₂}
use Rattle.std.proofs.lemmas.List.Sorted.{All-permutation, IsPermutation-map}
use Rattle.std.specs.List.Sorted.{IsPermutation}
use Rattle.gql_order.proofs.RankLaws.{texts_rise}
use Rattle.gql_order.proofs.heads.ordered_by_heads.Goals as goal
use Rattle.gql_order.specs.Ranks.{AllRanked, IsRank, RanksRise}
use Rattle.gql_plain.specs.Order.{AreInOrder}

pub returns-clause-rising : goal.returns-clause-rising
returns-clause-rising g c = λ told key reads.
    let start = c.deref-2.result.now in
    let given = c.in_ok-ranked.ranked.items in
    let sorted = c.sort_by.new.self.items in
    let all : AllRanked key start sorted
    = All-permutation (λ r. IsRank start (key r.item) r.rank) given sorted c.in_ok-sort_by.ensures.permutation (c.in_ok-ranked.ensures.ranks key reads) in
    let seen : c.deref-3.result.now ≡ sorted = search rules in
    subst (λ ts. AreInOrder (map key ts)) (sym c.in_ok-items_of.ensures) (texts_rise key start sorted all (subst RanksRise seen (c.do_rise-is_rising.ensures told)))

pub returns-clause-moved : goal.returns-clause-moved
returns-clause-moved g c =
    let given = c.in_ok-ranked.ranked.items in
    let sorted = c.sort_by.new.self.items in
    subst₂ IsPermutation c.in_ok-ranked.ensures.same (sym c.in_ok-items_of.ensures)
    (IsPermutation-map (λ r. r.item) given sorted c.in_ok-sort_by.ensures.permutation)
