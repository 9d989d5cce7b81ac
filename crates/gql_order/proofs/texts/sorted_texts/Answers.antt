-- The texts are put in order twice, and equal ones are dropped, or they are in order by their heads.
use Rattle.std.proofs.Common.{◌≡◌, rules, ap, map, IsSorted}
use Rattle.std.proofs.lemmas.Fn.{always_returns_same, dedup_same}
use Rattle.std.proofs.lemmas.List.MinMax.{ranks_by}
use Rattle.std.proofs.lemmas.List.Sorted.{IsPermutation-map, IsPermutation-trans}
use Rattle.std.proofs.lemmas.Cmp.{nat_list_cmp_total, on_total}
use Rattle.std.specs.List.{dedup}
use Rattle.std.specs.Ordering.{is_lt}
use Rattle.gql_order.proofs.Borrowed.{Borrowed, by_text, distinct_texts, is_same}
use Rattle.gql_order.proofs.Moved.{in_order_of_moved}
use Rattle.gql_order.proofs.texts.sorted_texts.Goals as goal

pub returns-then-moved : goal.returns-then-moved
returns-then-moved c =
    let given = c.args.texts.items in
    let moved = c.in_ok-moved.moved.items.items in
    in_order_of_moved (map (λ t. t.now) given) (map (λ t. t.now) moved) (IsPermutation-map (λ (t : Borrowed). t.now) given moved c.in_ok-moved.ensures.moved)
    (c.in_ok-moved.ensures.rising (search rules) (λ t. t.now) (λ x text called. search rules))

pub returns : goal.returns
returns c =
    let given = c.args.texts.items in
    let moved = c.in_ok-moved.moved.items.items in
    let sorted = c.sort_by.new.self.items in
    let kept = c.dedup_by.new.self.items in
    let up : IsSorted by_text sorted
    = c.in_ok-sort_by.ensures.sorted (λ x y. is_lt (by_text x y)) (ranks_by (on_total (λ (t : Borrowed). t.now) nat_list_cmp_total) (λ (t : Borrowed). t))
    (always_returns_same _ _ _ (λ a r k called. (let e : r ≡ by_text a.0.now a.1.0.now = search rules in ap is_lt e, search rules))) in
    let once : kept ≡ dedup is_same sorted = dedup_same _ is_same _ (λ x y b k x' y' called. search rules) sorted kept c.dedup_by.ensures.filtered in
    distinct_texts given sorted kept (IsPermutation-trans given moved sorted c.in_ok-moved.ensures.moved c.in_ok-sort_by.ensures.permutation) up once
