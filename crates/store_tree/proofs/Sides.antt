-- A node whose pairs are in order, and a key that is below, at or above its entry.
use Rattle.std.proofs.Common.{◌≡◌, ℕ, ◌<◌, List, ◌∷◌, ◌++◌, T, length, length-append, Some, sym, ap, ◌∙◌, subst, arith}
use Rattle.std.specs.declared.cmp.Ordering.TheVariants.{Less, Equal, Greater}
use Rattle.std.specs.FinMap.{find, put, is_sorted}
use Rattle.store_tree.specs.Contents.{without_tied}
use Rattle.store_tree.specs.KeyOrder.{key_cmp}
use Rattle.store_tree.specs.Shape.{pairs_of}
use Rattle.store_tree.specs.declared.branch.Node.{Node}
use Rattle.store_tree.proofs.KeyOrder.{key_cmp_total, key_cmp-same}
use Rattle.store_tree.proofs.Order as order

abbrev key_of : {V : Type 0} → Node V → List ℕ
key_of n = n.item.0

-- an entry is the pair of its parts
pub whole : {V : Type 0} (l r : List (List ℕ × V)) (e : List ℕ × V) (ps : List (List ℕ × V)) → l ++ (e.0, e.1) ∷ r ≡ ps → l ++ e ∷ r ≡ ps
whole l r e ps h = h

module _ {V : Type 0} (pairs : List (List ℕ × V)) (n : Node V) (is : pairs ≡ pairs_of n) where
  pub shorter : (length n.left.pairs < length pairs) × (length n.right.pairs < length pairs)
  shorter = let e = ap length is ∙ length-append n.left.pairs (n.item ∷ n.right.pairs) in (omega arith, omega arith)

  module _ (s : T (is_sorted key_cmp pairs)) where
    told : T (is_sorted key_cmp (pairs_of n))
    told = subst (λ ps. T (is_sorted key_cmp ps)) is s

    pub left_sorted : T (is_sorted key_cmp n.left.pairs)
    left_sorted = order.sorted_left key_cmp_total n.left.pairs _ told

    pub right_sorted : T (is_sorted key_cmp n.right.pairs)
    right_sorted = order.sorted_right key_cmp_total n.left.pairs n.item n.right.pairs told

    module _ (key : List ℕ) where
      pub found-less : key_cmp key (key_of n) ≡ Less → find key_cmp key pairs ≡ find key_cmp key n.left.pairs
      found-less p = ap (find key_cmp key) is ∙ order.find-left key_cmp_total key n.left.pairs n.item n.right.pairs p told

      pub found-equal : key_cmp key (key_of n) ≡ Equal → find key_cmp key pairs ≡ Some n.item.1
      found-equal p = ap (find key_cmp key) is ∙ order.find-middle key_cmp_total key n.left.pairs n.item n.right.pairs p told

      pub found-greater : key_cmp key (key_of n) ≡ Greater → find key_cmp key pairs ≡ find key_cmp key n.right.pairs
      found-greater p = ap (find key_cmp key) is ∙ order.find-right key_cmp_total key n.left.pairs n.item n.right.pairs p told

      pub put-less : (v : V) → key_cmp key (key_of n) ≡ Less → put key_cmp key v n.left.pairs ++ n.item ∷ n.right.pairs ≡ put key_cmp key v pairs
      put-less v p = sym (ap (put key_cmp key v) is ∙ order.put-left key_cmp_total key v n.left.pairs n.item n.right.pairs p)

      pub put-equal : (v : V) → key_cmp key (key_of n) ≡ Equal → n.left.pairs ++ (key, v) ∷ n.right.pairs ≡ put key_cmp key v pairs
      put-equal v p =
          let same = key_cmp-same key (key_of n) p in
          ap (λ k. n.left.pairs ++ (k, v) ∷ n.right.pairs) same
          ∙ sym (ap (put key_cmp key v) is ∙ order.put-middle key_cmp_total key v n.left.pairs n.item n.right.pairs p told)

      pub put-greater : (v : V) → key_cmp key (key_of n) ≡ Greater → n.left.pairs ++ n.item ∷ put key_cmp key v n.right.pairs ≡ put key_cmp key v pairs
      put-greater v p = sym (ap (put key_cmp key v) is ∙ order.put-right key_cmp_total key v n.left.pairs n.item n.right.pairs p told)

      pub without-less : key_cmp key (key_of n) ≡ Less → without_tied key_cmp key n.left.pairs ++ n.item ∷ n.right.pairs ≡ without_tied key_cmp key pairs
      without-less p = sym (ap (without_tied key_cmp key) is ∙ order.without-left key_cmp_total key n.left.pairs n.item n.right.pairs p told)

      pub without-equal : key_cmp key (key_of n) ≡ Equal → n.left.pairs ++ n.right.pairs ≡ without_tied key_cmp key pairs
      without-equal p = sym (ap (without_tied key_cmp key) is ∙ order.without-middle key_cmp_total key n.left.pairs n.item n.right.pairs p told)

      pub without-greater : key_cmp key (key_of n) ≡ Greater → n.left.pairs ++ n.item ∷ without_tied key_cmp key n.right.pairs ≡ without_tied key_cmp key pairs
      without-greater p = sym (ap (without_tied key_cmp key) is ∙ order.without-right key_cmp_total key n.left.pairs n.item n.right.pairs p told)
