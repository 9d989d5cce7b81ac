-- Lists with the same elements, one from the other by turns of neighbours.
use Rattle.std.proofs.Common.{◌≡◌, ℕ, zero, suc, ◌<◌, false, bytes_eq, List, [], ◌∷◌, ◌++◌, map, length, get_or, Ordering, Less, Equal, Greater, nat_cmp, refl, sym, ap, ◌∙◌, arith}
use Rattle.std.proofs.Math.ListN.{set}
use Rattle.std.proofs.lemmas.Cmp.{nat_list_cmp_total}
use Rattle.std.proofs.lemmas.List.Sorted.{IsPermutation-keeps}
use Rattle.std.proofs.lemmas.Map.Text.{is_eq-slice_cmp}
use Rattle.std.specs.Cmp.Lexicographic.{slice_cmp}
use Rattle.std.specs.List.{AllByRecursion, swap}
use Rattle.std.specs.List.Sorted.{IsPermutation, IsStrictlySortedBy}
use Rattle.std.specs.Ordering.{is_eq, ordering_reverse}
use Rattle.plan_ir.specs.gql_plain.Order.{AreInOrder}
use Rattle.plan_order.proofs.Rising.{IsBelow, all-weaker, below_differs}
use Rattle.plan_ir.specs.store_record.Keys.{Text}

pub data Shuffle {X : Type 0} : List X → List X → Type 0 where
  nothing : Shuffle [] []
  next : {x : X} {xs ys : List X} → Shuffle xs ys → Shuffle (x ∷ xs) (x ∷ ys)
  turned : {x y : X} {xs : List X} → Shuffle (x ∷ y ∷ xs) (y ∷ x ∷ xs)
  chained : {xs ys zs : List X} → Shuffle xs ys → Shuffle ys zs → Shuffle xs zs

module _ {X : Type 0} where
  pub shuffle-refl : (xs : List X) → Shuffle xs xs
  shuffle-refl [] = nothing
  shuffle-refl (x ∷ xs) = next (shuffle-refl xs)

  pub shuffle-back : {xs ys : List X} → Shuffle xs ys → Shuffle ys xs
  shuffle-back nothing = nothing
  shuffle-back (next s) = next (shuffle-back s)
  shuffle-back turned = turned
  shuffle-back (chained s t) = chained (shuffle-back t) (shuffle-back s)

  front : (x : X) (xs : List X) (j : ℕ) (d : X) → j < length xs → Shuffle (x ∷ xs) (get_or xs j d ∷ set xs j x)
  front x [] j d p = absurd (omega arith)
  front x (y ∷ ys) zero d p = turned
  front x (y ∷ ys) (suc j) d p = chained turned (chained (next (front x ys j d (omega arith))) turned)

  exchanged : (xs : List X) (i j : ℕ) (d : X) → i < length xs → j < length xs → Shuffle xs (set (set xs i (get_or xs j d)) j (get_or xs i d))
  exchanged [] i j d p q = absurd (omega arith)
  exchanged (x ∷ xs) zero zero d p q = shuffle-refl (x ∷ xs)
  exchanged (x ∷ xs) zero (suc j) d p q = front x xs j d (omega arith)
  exchanged (x ∷ xs) (suc i) zero d p q = front x xs i d (omega arith)
  exchanged (x ∷ xs) (suc i) (suc j) d p q = next (exchanged xs i j d (omega arith) (omega arith))

  swapped : (xs : List X) (i j : ℕ) → i < length xs → j < length xs → Shuffle xs (swap xs i j)
  swapped [] i j p q = nothing
  swapped (x ∷ xs) i j p q = exchanged (x ∷ xs) i j x p q

  pub shuffle-of : (xs ys : List X) → IsPermutation xs ys → Shuffle xs ys
  shuffle-of xs ys = IsPermutation-keeps xs (λ l. Shuffle xs l) (shuffle-refl xs) (λ l i j p q s. chained s (swapped l i j p q)) ys

  pub shuffle-append_left : (us : List X) {xs ys : List X} → Shuffle xs ys → Shuffle (us ++ xs) (us ++ ys)
  shuffle-append_left [] s = s
  shuffle-append_left (u ∷ us) s = next (shuffle-append_left us s)

  -- two parts in front, the other way round
  shuffle-past : (y : X) (xs zs : List X) → Shuffle (xs ++ y ∷ zs) (y ∷ (xs ++ zs))
  shuffle-past y [] zs = shuffle-refl (y ∷ zs)
  shuffle-past y (x ∷ xs) zs = chained (next (shuffle-past y xs zs)) turned

  pub shuffle-turn : (xs ys zs : List X) → Shuffle (xs ++ (ys ++ zs)) (ys ++ (xs ++ zs))
  shuffle-turn xs [] zs = shuffle-refl (xs ++ zs)
  shuffle-turn xs (y ∷ ys) zs = chained (shuffle-past y xs (ys ++ zs)) (next (shuffle-turn xs ys zs))

  pub all-shuffled : (P : X → Type 0) {xs ys : List X} → Shuffle xs ys → AllByRecursion P xs → AllByRecursion P ys
  all-shuffled P nothing all = tt
  all-shuffled P (next s) all = (all.0, all-shuffled P s all.1)
  all-shuffled P turned all = (all.1.0, (all.0, all.1.1))
  all-shuffled P (chained s t) all = all-shuffled P t (all-shuffled P s all)

pub shuffle-map : {X Y : Type 0} (f : X → Y) {xs ys : List X} → Shuffle xs ys → Shuffle (map f xs) (map f ys)
shuffle-map f nothing = nothing
shuffle-map f (next s) = next (shuffle-map f s)
shuffle-map f turned = turned
shuffle-map f (chained s t) = chained (shuffle-map f s) (shuffle-map f t)

-- ---- texts that differ

abbrev pub Differ : Text → Text → Type 0
Differ a b = bytes_eq a b ≡ false

abbrev pub DoDiffer : List Text → Type 0
DoDiffer [] = Unit {0}
DoDiffer (x ∷ xs) = AllByRecursion (Differ x) xs × DoDiffer xs

is_eq-reverse : (o : Ordering) → is_eq (ordering_reverse o) ≡ is_eq o
is_eq-reverse Less = refl
is_eq-reverse Equal = refl
is_eq-reverse Greater = refl

pub differ-back : (a b : Text) → Differ a b → Differ b a
differ-back a b e =
    sym (is_eq-slice_cmp b a) ∙ ap is_eq (nat_list_cmp_total.antisymm b a) ∙ is_eq-reverse (slice_cmp nat_cmp a b) ∙ is_eq-slice_cmp a b ∙ e

pub differ-shuffled : {xs ys : List Text} → Shuffle xs ys → DoDiffer xs → DoDiffer ys
differ-shuffled nothing all = tt
differ-shuffled (next s) all = (all-shuffled _ s all.0, differ-shuffled s all.1)
differ-shuffled (turned {x = x} {y = y}) all = ((differ-back x y all.0.0, all.1.0), (all.0.1, all.1.1))
differ-shuffled (chained s t) all = differ-shuffled t (differ-shuffled s all)

pub differ-rising : (xs : List Text) → AreInOrder xs → DoDiffer xs
unfolding IsStrictlySortedBy
differ-rising [] up = tt
differ-rising (x ∷ xs) up = (all-weaker (IsBelow x) (Differ x) xs (below_differs x) up.0, differ-rising xs up.1)

-- what stands before an element differs from it
pub differ-before : (xs : List Text) (y : Text) (ys : List Text) → DoDiffer (xs ++ y ∷ ys) → AllByRecursion (λ x. Differ x y) xs
differ-before [] y ys all = tt
differ-before (x ∷ xs) y ys all = (at xs all.0, differ-before xs y ys all.1)
  where
    at : (zs : List Text) → AllByRecursion (Differ x) (zs ++ y ∷ ys) → Differ x y
    at [] all = all.0
    at (z ∷ zs) all = at zs all.1
