-- What a tree is seen as: the pairs of its root in byte order, and the root's height.
use Rattle.std.proofs.Common.{◌≡◌, ℕ, ◌*◌, ◌≤◌, T, List, length, sym, ap, ◌∙◌, subst}
use Rattle.std.specs.FinMap.{find, put, is_sorted}
use Rattle.std.specs.Cmp.Lexicographic.{slice_cmp}
use Rattle.std.specs.Ordering.{nat_cmp}
use Rattle.store_tree.specs.Contents.{Contents, KeysRise, without_key, without_tied, by_bytes, binary_digits}
use Rattle.store_tree.specs.KeyOrder.{key_cmp}
use Rattle.store_tree.specs.Shape.{contents_of, IsBalanced}
use Rattle.store_tree.specs.declared.branch.Link.{Link}
use Rattle.store_tree.proofs.ByBytes.{KeysRise-by_bytes, by_bytes-put, by_bytes-without, find-by_bytes, length-by_bytes}
use Rattle.store_tree.proofs.Low.{low-opened}

module _ {V : Type 0} (root seen : Contents V) (is : record { pairs = by_bytes root.pairs; height = root.height } ≡ seen) where
  pub seen-rises : KeysRise seen.pairs
  seen-rises = subst (λ d. KeysRise d.pairs) is (KeysRise-by_bytes root.pairs)

  module _ (in_order : T (is_sorted key_cmp root.pairs)) where
    pub seen-length : length root.pairs ≡ length seen.pairs
    seen-length = sym (length-by_bytes root.pairs in_order) ∙ ap (λ d. length d.pairs) is

    pub seen-low : (link : Link V) → IsBalanced link → contents_of link ≡ root → seen.height ≤ 2 * binary_digits (length seen.pairs)
    seen-low link balanced opened =
        let low : root.height ≤ 2 * binary_digits (length root.pairs) = low-opened link root balanced opened in
        subst (λ n. seen.height ≤ 2 * binary_digits n) seen-length (subst (λ m. m ≤ 2 * binary_digits (length root.pairs)) (ap (λ d. d.height) is) low)

module _ {V : Type 0} (ps seen : List (List ℕ × V)) (is : by_bytes ps ≡ seen) where
  pub seen-find : (key : List ℕ) → find key_cmp key ps ≡ find (slice_cmp nat_cmp) key seen
  seen-find key = find-by_bytes key ps ∙ ap (find (slice_cmp nat_cmp) key) is

  pub seen-put : (key : List ℕ) (v : V) (after : List (List ℕ × V)) → after ≡ put key_cmp key v ps → by_bytes after ≡ put (slice_cmp nat_cmp) key v seen
  seen-put key v after e = ap by_bytes e ∙ by_bytes-put key v ps ∙ ap (put (slice_cmp nat_cmp) key v) is

  pub seen-without : (key : List ℕ) (after : List (List ℕ × V)) → after ≡ without_tied key_cmp key ps → by_bytes after ≡ without_key key seen
  seen-without key after e = ap by_bytes e ∙ by_bytes-without key ps ∙ ap (without_key key) is
