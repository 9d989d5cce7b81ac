-- An entry that is written in place, or comes back.
use Rattle.std.proofs.Common.{◌≡◌, ℕ, ◌+◌, ◌<◌, ◌≤◌, ◌^◌, true≢false, List, [], ◌∷◌, ◌++◌, T, length, Option, Some, None, refl, sym, ap, ◌∙◌, subst, arith}
use Rattle.std.specs.Prelude.{is_some, IfSome}
use Rattle.std.specs.declared.cmp.Ordering.{Ordering}
use Rattle.std.specs.declared.cmp.Ordering.TheVariants.{Less, Equal, Greater}
use Rattle.std.specs.FinMap.Entries.{by_order, put, is_sorted}
use Rattle.store_tree.specs.Contents.{Contents, by_bytes}
use Rattle.store_tree.specs.KeyOrder.{key_cmp}
use Rattle.store_tree.specs.Shape.{pairs_of, IsEven}
use Rattle.store_tree.specs.Written.{IsNodeWritten, IsWritten}
use Rattle.store_tree.specs.declared.branch.Node.{Node}
use Rattle.store_tree.proofs.Kept.{in_order-put}
use Rattle.store_tree.proofs.Made.{length-put_least, even-left, even-middle, even-right}
use Rattle.store_tree.proofs.Sides as sides

-- one pair more at most where one is put in
pub length-put_most : {K X : Type 0} (R : K → K → Ordering) (key : K) (v : X) (pairs : List (K × X)) → length (put R key v pairs) ≤ length pairs + 1
length-put_most R key v [] = omega arith
length-put_most R key v (e ∷ es) = at (length-put_most R key v es) (R key e.0)
  where
    at : length (put R key v es) ≤ length es + 1 → (o : Ordering) → length (by_order o ((key, v) ∷ e ∷ es) ((e.0, v) ∷ es) (e ∷ put R key v es)) ≤ length (e ∷ es) + 1
    at more Less = omega arith
    at more Equal = omega arith
    at more Greater = omega (arith, more)

module _ {V : Type 0} (n : Node V) (even : IsEven n) (in_order : T (is_sorted key_cmp (pairs_of n))) (e : List ℕ × V) where
  pub written-left : (side : Contents V) (count : ℕ) → n.count + 1 < 2 ^ 64 → key_cmp e.0 n.item.0 ≡ Less
      → side.pairs ≡ put key_cmp e.0 e.1 n.left.pairs → side.height ≡ n.left.height
      → count + length n.left.pairs ≡ n.count + length side.pairs
      → IsNodeWritten e n (record { left = side; item = n.item; right = n.right; count = count; height = n.height }) None
  written-left side count room p made level sum =
      let longer : length n.left.pairs ≤ length side.pairs = rw made (length-put_least key_cmp e.0 e.1 n.left.pairs) in
      let most : length side.pairs ≤ length n.left.pairs + 1 = rw made (length-put_most key_cmp e.0 e.1 n.left.pairs) in
      let fits : count < 2 ^ 64 = omega arith in
      ((λ i. made i ++ n.item ∷ n.right.pairs) ∙ sides.put-less (pairs_of n) n refl in_order e.0 e.1 p, refl, even-left n side count even level longer sum fits)

  pub written-right : (side : Contents V) (count : ℕ) → n.count + 1 < 2 ^ 64 → key_cmp e.0 n.item.0 ≡ Greater
      → side.pairs ≡ put key_cmp e.0 e.1 n.right.pairs → side.height ≡ n.right.height
      → count + length n.right.pairs ≡ n.count + length side.pairs
      → IsNodeWritten e n (record { left = n.left; item = n.item; right = side; count = count; height = n.height }) None
  written-right side count room p made level sum =
      let longer : length n.right.pairs ≤ length side.pairs = rw made (length-put_least key_cmp e.0 e.1 n.right.pairs) in
      let most : length side.pairs ≤ length n.right.pairs + 1 = rw made (length-put_most key_cmp e.0 e.1 n.right.pairs) in
      let fits : count < 2 ^ 64 = omega arith in
      ((λ i. n.left.pairs ++ n.item ∷ made i) ∙ sides.put-greater (pairs_of n) n refl in_order e.0 e.1 p, refl, even-right n side count even level longer sum fits)

  pub written-middle : key_cmp e.0 n.item.0 ≡ Equal
      → IsNodeWritten e n (record { left = n.left; item = e; right = n.right; count = n.count; height = n.height }) None
  written-middle p = (sides.whole n.left.pairs n.right.pairs e _ (sides.put-equal (pairs_of n) n refl in_order e.0 e.1 p), refl, even-middle n e even)

-- what holds of a branch in either case
module _ {V : Type 0} (item : List ℕ × V) (before after : Contents V) where
  pub pairs-written : (back : Option (List ℕ × V)) → IsWritten item before after back → back ≡ None → after.pairs ≡ put key_cmp item.0 item.1 before.pairs
  pairs-written None w e = w.0
  pairs-written (Some back) w e = absurd (true≢false (ap is_some e))

  pub same-height : (back : Option (List ℕ × V)) → IsWritten item before after back → after.height ≡ before.height
  same-height None w = w.1
  same-height (Some back) w = ap (λ d. d.height) w.1

  pub order-written : (back : Option (List ℕ × V)) → IsWritten item before after back → T (is_sorted key_cmp before.pairs) → T (is_sorted key_cmp after.pairs)
  order-written None w s = in_order-put before.pairs item.0 item.1 after.pairs s w.0
  order-written (Some back) w s = subst (λ d. T (is_sorted key_cmp d.pairs)) (sym w.1) s

  pub seen-back : (seen : Contents V) → record { pairs = by_bytes before.pairs; height = before.height } ≡ seen
      → (back : Option (List ℕ × V)) → IsWritten item before after back
      → IfSome back (λ b. (b ≡ item) × (record { pairs = by_bytes after.pairs; height = after.height } ≡ seen))
  seen-back seen is None w = tt
  seen-back seen is (Some back) w = (w.0, (λ i. record { pairs = by_bytes (w.1 i).pairs; height = (w.1 i).height }) ∙ is)
