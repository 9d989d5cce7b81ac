use Rattle.std.proofs.Common.{◌≡◌, bytes_eq, map, nat_cmp, rules, sym, ap, ◌∙◌}
use Rattle.std.proofs.lemmas.Fn.{always_returns_same, dedup_same}
use Rattle.std.proofs.lemmas.List.{take_all}
use Rattle.std.specs.Cmp.Lexicographic.{slice_cmp}
use Rattle.std.specs.List.{dedup}
use Rattle.std.specs.List.Sorted.{IsStableBy, IsSortedBy}
use Rattle.std.specs.Ordering.{is_lt}
use Rattle.schema_tables.proofs.Pairs.{at_of, key, sorted_pairs}
use Rattle.schema_tables.proofs.index.Index.sort.Goals as goal

pub returns : goal.returns
returns c =
    let given = c.args.pairs.items in
    let sorted = c.sort_by_key.new.self.items in
    let kept = c.dedup_by_key.new.self.items in
    let stable : IsStableBy (λ x y. is_lt (slice_cmp nat_cmp (key x) (key y))) given sorted =
    c.in_ok-sort_by_key.ensures.stable (λ p. p.name) (always_returns_same _ _ _ (λ a r k called. (search rules, search rules))) in
    let up : IsSortedBy (λ x y. is_lt (slice_cmp nat_cmp (key x) (key y))) sorted =
    c.in_ok-sort_by_key.ensures.sorted (λ p. p.name) (always_returns_same _ _ _ (λ a r k called. (search rules, search rules))) in
    let firsts : kept ≡ dedup (λ x y. bytes_eq (key x) (key y)) sorted = dedup_same _ (λ x y. bytes_eq (key x) (key y)) _ (λ x y b k x' y' called. search rules) sorted kept c.dedup_by_key.ensures.filtered in
    sorted_pairs given sorted kept c.pairs.places.items stable up firsts
    (c.pairs.invariant ∙ ap (map at_of) (take_all c.pairs.pair-index c.deref-pair-items.result.now c.pairs-test.false ∙ c.deref-pair-items.ensures.value))
