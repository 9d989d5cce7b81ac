use Rattle.std.proofs.Common.{◌≡◌, List, ℕ, false, drop, nat_cmp, sym, ◌∙◌, ap, subst}
use Rattle.std.specs.Cmp.Lexicographic.{slice_cmp}
use Rattle.std.specs.FinMap.{keys}
use Rattle.std.specs.Ordering.{is_lt}
use Rattle.store_update.specs.gql_plain.Order.{AreInOrder, has_text}
use Rattle.store_update.specs.store_model.Sweeps.{dropped}
use Rattle.store_layers.proofs.Swept.{noted_dropped, dropped_in_order, keys_in_order}
use Rattle.store_layers.proofs.Walked.{left_rest, noted_more}
use Rattle.store_layers.proofs.sweep.ids_to_drop.Goals as goal

pub ids-preserved : goal.ids-preserved
ids-preserved g c =
    let keep = c.args.keep.now in
    let m = g.S.RecordSource.records c.args.source.now in
    let ids = c.as_slice-id-items.result.now in
    let i = c.ids.id-index in
    let id = c.id-item.result in
    let place = c.place_from-place.result.0 in
    let all : ids ≡ keys m = c.as_slice-id-items.ensures ∙ c.in_ok-all.ensures in
    let left : (q : List ℕ) → is_lt (slice_cmp nat_cmp q id) ≡ false → has_text (drop place keep) q ≡ has_text (drop c.ids.from keep) q =
    subst (λ t. (q : List ℕ) → is_lt (slice_cmp nat_cmp q t) ≡ false → has_text (drop place keep) q ≡ has_text (drop c.ids.from keep) q)
    c.as_str.ensures c.place_from-place.ensures.left in
    let has : c.place_from-place.result.1 ≡ has_text keep id = c.place_from-place.ensures.has ∙ ap (has_text keep) c.as_str.ensures in
    record {
      noted = noted_more (has_text keep) ids i id c.ids.gone.items c.put_unless.new.gone.items c.place_from-place.result.1 c.ids-test.true c.id-item.is has
          c.ids.invariant.noted c.in_ok-put_unless.ensures;
      left = left_rest ids i id keep (drop c.ids.from keep) (drop place keep) c.ids-test.true c.id-item.is (subst AreInOrder (sym all) (keys_in_order m)) left
          c.ids.invariant.left;
    }

pub in_order-requires : goal.in_order-requires
in_order-requires g c =
    let kept = has_text c.args.keep.now in
    let m = g.S.RecordSource.records c.args.source.now in
    let all : c.as_slice-id-items.result.now ≡ keys m = c.as_slice-id-items.ensures ∙ c.in_ok-all.ensures in
    let noted : c.ids.gone.items ≡ dropped kept m = noted_dropped kept m c.as_slice-id-items.result.now c.ids.gone.items c.ids.id-index all c.ids-test.false c.ids.invariant.noted in
    subst AreInOrder (sym noted) (dropped_in_order kept m)
