-- Lists of texts, distinct and in byte order.
use Rattle.std.proofs.Common.{◌≡◌, ℕ, zero, suc, ◌<◌, length, map, get_or, take, arith, List, [], ◌∷◌, ◌++◌}
use Rattle.std.proofs.lemmas.List.Filters.{dedup_is}
use Rattle.std.proofs.lemmas.List.Kept.{Contains-dedup, Contains-from_dedup, IsStrictlySortedBy-dedup}
use Rattle.std.proofs.lemmas.List.Sorted.{Contains-permutation, IsPermutation-sym}
use Rattle.std.specs.Cmp.Lexicographic.{slice_cmp, pointwise, bytes_decides, nat_list_cmp_total, nat_list_eq_equiv, texts_ties}
use Rattle.std.specs.List.{AllByRecursion, dedup}
use Rattle.std.specs.List.Retain.{IsFiltered, DiffersFromLast}
use Rattle.std.specs.List.Sorted.{IsPermutation, IsSorted, IsStrictlySortedBy}
use Rattle.std.specs.Ordering.{nat_cmp}
use Rattle.std.specs.Prelude.{nat_eq}
use Rattle.std.specs.declared.cmp.Ordering.TheVariants.{Less}
use Rattle.gql_plain.specs.Order.{AreInOrder, IsAfter, AreSortedOf}

pub AreInOrder-none : AreInOrder []
unfolding IsStrictlySortedBy
AreInOrder-none = tt

below_push : (P : List ℕ → Type 0) (texts : List (List ℕ)) (text : List ℕ) → AllByRecursion P texts → P text → AllByRecursion P (texts ++ text ∷ [])
below_push P [] text all here = (here, tt)
below_push P (first ∷ texts) text all here = (all.0, below_push P texts text all.1 here)

-- a text that stands after the last one keeps the order
pub AreInOrder-push : (texts : List (List ℕ)) (text : List ℕ) → AreInOrder texts → IsAfter text texts → AreInOrder (texts ++ text ∷ [])
unfolding IsStrictlySortedBy
AreInOrder-push [] text order after = (tt, tt)
AreInOrder-push (first ∷ texts) text order after =
    (below_push (λ later. slice_cmp nat_cmp first later ≡ Less) texts text order.0 after.0, AreInOrder-push texts text order.1 after.1)

-- what a sort and then a `dedup` leave
pub AreSortedOf-dedup : (texts sorted kept : List (List ℕ)) → IsPermutation texts sorted → IsSorted (slice_cmp nat_cmp) sorted
    → IsFiltered (DiffersFromLast (pointwise nat_eq)) [] sorted kept → AreSortedOf texts kept
AreSortedOf-dedup texts sorted kept moved order filtered =
    let is : kept ≡ dedup (pointwise nat_eq) sorted = dedup_is (pointwise nat_eq) sorted kept filtered in
    rw is (
      IsStrictlySortedBy-dedup nat_list_cmp_total texts_ties sorted order,
      λ text. (
        λ kept_one. Contains-permutation sorted texts text (IsPermutation-sym texts sorted moved) (Contains-from_dedup (pointwise nat_eq) sorted text kept_one),
        λ one. Contains-dedup nat_list_eq_equiv (λ x y. (bytes_decides x y).0) sorted text (Contains-permutation texts sorted text moved one),
      ),
    )

pub below_at : {X : Type 0} (key : X → List ℕ) (P : List ℕ → Type 0) (xs : List X) (i : ℕ) (d : X) → i < length xs → AllByRecursion P (map key xs) → P (key (get_or xs i d))
below_at key P [] i d h all = absurd (omega arith)
below_at key P (x ∷ xs) zero d h all = all.0
below_at key P (x ∷ xs) (suc i) d h all = below_at key P xs i d (omega arith) all.1

-- each key stands after those before it
pub IsAfter-at : {X : Type 0} (key : X → List ℕ) (xs : List X) (i : ℕ) (d : X) → i < length xs → AreInOrder (map key xs) → IsAfter (key (get_or xs i d)) (map key (take i xs))
unfolding IsStrictlySortedBy
IsAfter-at key [] i d h order = absurd (omega arith)
IsAfter-at key (x ∷ xs) zero d h order = tt
IsAfter-at key (x ∷ xs) (suc i) d h order =
    (below_at key (λ later. slice_cmp nat_cmp (key x) later ≡ Less) xs i d (omega arith) order.0, IsAfter-at key xs i d (omega arith) order.1)
