-- Lists of borrowed texts, by the lists of the texts.
use Rattle.std.proofs.Common.{◌≡◌, ℕ, ◌+◌, ◌<◌, Bool, true, false, cond, List, [], ◌∷◌, map, length, Bor, Ordering, IsSorted, nat_cmp, nat_eq, refl, sym, ap, ◌∙◌, subst, arith}
use Rattle.std.proofs.lemmas.List.{get_or-map, length-map}
use Rattle.std.proofs.lemmas.List.Kept.{Contains-dedup, Contains-from_dedup, IsStrictlySortedBy-dedup}
use Rattle.std.proofs.lemmas.List.Sorted.{Contains-permutation, IsPermutation-map, IsPermutation-sym}
use Rattle.std.specs.Cmp.Lexicographic.{bytes_decides, nat_list_cmp_total, nat_list_eq_equiv, pointwise, slice_cmp, texts_ties}
use Rattle.std.specs.List.{dedup, dedup_from}
use Rattle.std.specs.List.Sorted.{IsPermutation}
use Rattle.gql_plain.specs.Order.{AreSortedOf}

abbrev pub Borrowed : Type 0
Borrowed = Bor (List ℕ)

abbrev pub by_text : Borrowed → Borrowed → Ordering
by_text a b = slice_cmp nat_cmp a.now b.now

abbrev pub is_same : Borrowed → Borrowed → Bool
is_same a b = pointwise nat_eq a.now b.now

abbrev pub texts_of : List Borrowed → List (List ℕ)
texts_of ts = map (λ t. t.now) ts

sorted_texts_of : (xs : List Borrowed) → IsSorted by_text xs → IsSorted (slice_cmp nat_cmp) (texts_of xs)
sorted_texts_of [] sorted k d low high = absurd (omega arith)
sorted_texts_of (x ∷ xs) sorted k d low high =
    let within : k + 1 < length (x ∷ xs) = rw length-map at high in
    rw (get_or-map (λ (t : Borrowed). t.now) (x ∷ xs) (k + 1) x d within, get_or-map (λ (t : Borrowed). t.now) (x ∷ xs) k x d (omega arith)) (sorted k x low within)

dedup_from_texts : (k : Borrowed) (xs : List Borrowed) → texts_of (dedup_from is_same k xs) ≡ dedup_from (pointwise nat_eq) k.now (texts_of xs)
dedup_from_texts k [] = refl
dedup_from_texts k (x ∷ xs) = on (is_same x k) (dedup_from_texts k xs) (dedup_from_texts x xs)
  where
    on : (b : Bool) → texts_of (dedup_from is_same k xs) ≡ dedup_from (pointwise nat_eq) k.now (texts_of xs)
        → texts_of (dedup_from is_same x xs) ≡ dedup_from (pointwise nat_eq) x.now (texts_of xs)
        → texts_of (cond b (dedup_from is_same k xs) (k ∷ dedup_from is_same x xs)) ≡ cond b (dedup_from (pointwise nat_eq) k.now (texts_of xs)) (k.now ∷ dedup_from (pointwise nat_eq) x.now (texts_of xs))
    on true same other = same
    on false same other = ap (λ ts. k.now ∷ ts) other

dedup_texts : (xs : List Borrowed) → texts_of (dedup is_same xs) ≡ dedup (pointwise nat_eq) (texts_of xs)
dedup_texts [] = refl
dedup_texts (x ∷ xs) = dedup_from_texts x xs

dedup_sorted : (texts sorted : List (List ℕ)) → IsPermutation texts sorted → IsSorted (slice_cmp nat_cmp) sorted → AreSortedOf texts (dedup (pointwise nat_eq) sorted)
dedup_sorted texts sorted moved order = (
  IsStrictlySortedBy-dedup nat_list_cmp_total texts_ties sorted order,
  λ text. (
    λ kept_one. Contains-permutation sorted texts text (IsPermutation-sym texts sorted moved) (Contains-from_dedup (pointwise nat_eq) sorted text kept_one),
    λ one. Contains-dedup nat_list_eq_equiv (λ x y. (bytes_decides x y).0) sorted text (Contains-permutation texts sorted text moved one),
  ),
)

-- what is sorted and of which equal ones are dropped are the distinct texts
pub distinct_texts : (given sorted kept : List Borrowed) → IsPermutation given sorted → IsSorted by_text sorted → kept ≡ dedup is_same sorted → AreSortedOf (texts_of given) (texts_of kept)
distinct_texts given sorted kept moved order is =
    subst (AreSortedOf (texts_of given)) (sym (ap texts_of is ∙ dedup_texts sorted))
    (dedup_sorted (texts_of given) (texts_of sorted) (IsPermutation-map (λ (t : Borrowed). t.now) given sorted moved) (sorted_texts_of sorted order))
