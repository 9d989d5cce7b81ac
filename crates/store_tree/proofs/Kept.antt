-- The keys still rise, in the order of the tree, after a change.
use Rattle.std.proofs.Common.{◌≡◌, ℕ, T, List, sym, subst}
use Rattle.std.specs.Prelude.{not}
use Rattle.std.specs.FinMap.{put, is_sorted}
use Rattle.std.specs.FinMap.Entries.{is_sorted-put, is_sorted-where_key}
use Rattle.std.specs.Ordering.{eq_by_cmp}
use Rattle.store_tree.specs.Contents.{without_tied}
use Rattle.store_tree.specs.KeyOrder.{key_cmp}
use Rattle.store_tree.proofs.KeyOrder.{key_cmp_total}

module _ {V : Type 0} (pairs : List (List ℕ × V)) where
  pub in_order-put : (key : List ℕ) (v : V) (after : List (List ℕ × V)) → T (is_sorted key_cmp pairs) → after ≡ put key_cmp key v pairs → T (is_sorted key_cmp after)
  in_order-put key v after h e = subst (λ ps. T (is_sorted key_cmp ps)) (sym e) (is_sorted-put key_cmp key_cmp_total key v pairs h)

  pub in_order-without : (key : List ℕ) (after : List (List ℕ × V)) → T (is_sorted key_cmp pairs) → after ≡ without_tied key_cmp key pairs → T (is_sorted key_cmp after)
  in_order-without key after h e =
      subst (λ ps. T (is_sorted key_cmp ps)) (sym e) (is_sorted-where_key key_cmp (λ other. not (eq_by_cmp key_cmp key other)) pairs h)
