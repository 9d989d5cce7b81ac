-- The finite map that pairs with rising keys are, and what a change of the pairs is there.
use Rattle.std.proofs.Common.{◌≡◌, ℕ, Bool, true, false, cond, List, refl, sym, ap, ◌∙◌}
use Rattle.std.specs.Prelude.{not, None, map}
use Rattle.std.specs.FinMap.{put, from_sorted, insert, remove, keys, get-remove, get-from_sorted, entries-from_sorted, entries-insert, same_entries_map, same_map, slice_cmp-IsAntisymmetric, nat_cmp-IsAntisymmetric}
use Rattle.std.specs.FinMap.Entries.{is_sorted-put, is_sorted-where_key, find-where_key}
use Rattle.std.specs.Cmp.{alike_right, eq_by_cmp_equiv}
use Rattle.std.specs.Cmp.Lexicographic.{slice_cmp, nat_list_cmp_total}
use Rattle.std.specs.Ordering.{nat_cmp, eq_by_cmp, is_eq}
use Rattle.store_tree.specs.Contents.{KeysRise, keys_of, without_key}

turns : {A : Type 0} (b : Bool) (x y : A) → cond (not b) x y ≡ cond b y x
turns true x y = refl
turns false x y = refl

abbrev other : List ℕ → List ℕ → Bool
other key k = not (eq_by_cmp (slice_cmp nat_cmp) key k)

module _ {V : Type 0} (pairs : List (List ℕ × V)) (rise : KeysRise pairs) where
  pub keys-from_sorted : keys (from_sorted {R = slice_cmp nat_cmp} pairs) ≡ keys_of pairs
  keys-from_sorted = ap (map (λ e. e.0)) (entries-from_sorted (slice_cmp nat_cmp) pairs rise)

  pub from_sorted-put : (key : List ℕ) (v : V) → from_sorted {R = slice_cmp nat_cmp} (put (slice_cmp nat_cmp) key v pairs) ≡ insert (from_sorted pairs) key v
  from_sorted-put key v =
      same_entries_map _ _
      (entries-from_sorted (slice_cmp nat_cmp) (put (slice_cmp nat_cmp) key v pairs) (is_sorted-put (slice_cmp nat_cmp) nat_list_cmp_total key v pairs rise)
      ∙ ap (put (slice_cmp nat_cmp) key v) (sym (entries-from_sorted (slice_cmp nat_cmp) pairs rise)) ∙ sym (entries-insert nat_list_cmp_total (from_sorted pairs) key v))

  pub from_sorted-without_key : (key : List ℕ) → from_sorted {R = slice_cmp nat_cmp} (without_key key pairs) ≡ remove (from_sorted pairs) key
  from_sorted-without_key key =
      same_map nat_list_cmp_total (slice_cmp-IsAntisymmetric nat_cmp-IsAntisymmetric) _ _
      (λ q. get-from_sorted (slice_cmp nat_cmp) (without_key key pairs) q (is_sorted-where_key (slice_cmp nat_cmp) (other key) pairs rise)
      ∙ find-where_key (slice_cmp nat_cmp) (other key) q (λ x t. ap (λ r. not (is_eq r)) (sym (alike_right nat_list_cmp_total q x key t))) pairs
      ∙ turns (eq_by_cmp (slice_cmp nat_cmp) key q) _ _
      ∙ (λ i. cond ((eq_by_cmp_equiv nat_list_cmp_total).symm key q i) None (sym (get-from_sorted (slice_cmp nat_cmp) pairs q rise) i))
      ∙ sym (get-remove nat_list_cmp_total (from_sorted pairs) key q))
