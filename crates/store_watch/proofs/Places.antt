-- Places that rise: of the candidates, those whose elements pass a test are the places of all that pass it.
use Rattle.std.proofs.Common.{◌≡◌, ℕ, zero, suc, ◌<◌, ◌≤◌, ◌+◌, Bool, true, false, true≢false, cond, ◌||◌, ◌&&◌, List, [], ◌∷◌, ◌++◌, map, filter, length, refl, sym, ap, subst, ◌∙◌, arith, nat_eq, nat_cmp, Less, inl, inr}
use Rattle.std.proofs.lemmas.Bool.{cases_lt}
use Rattle.std.proofs.lemmas.Cmp.{ranked, nat_cmp_total, nat_eq_equiv}
use Rattle.std.proofs.lemmas.List.Filters.{dedup_is}
use Rattle.std.proofs.lemmas.List.Kept.{Contains-dedup_nat, IsStrictlySortedBy-dedup}
use Rattle.std.proofs.lemmas.List.Sorted.{Contains-permutation}
use Rattle.std.proofs.lemmas.Map.Views.{Contains-from_any, list_any-from_Contains}
use Rattle.std.specs.Cmp.{unsigned_ties}
use Rattle.std.specs.List.{AllByRecursion, list_any, dedup}
use Rattle.std.specs.List.Retain.{IsFiltered, DiffersFromLast}
use Rattle.std.specs.List.Sorted.{IsPermutation, IsSorted, IsStrictlySortedBy}
use Rattle.store_watch.proofs.Held.{same, itself, differ, differ_up, has_first, has_append, or_left, or_right}
use Rattle.store_watch.specs.Numbers.{has, Rises}
use Rattle.store_watch.specs.Places.{passes_at, places_from}

-- ---- lists that rise and have the same members are the same

-- what is below all of a list is not in it
none_below : (x : ℕ) (ys : List ℕ) → AllByRecursion (λ y. x < y) ys → has ys x ≡ false
none_below x [] all = refl
none_below x (y ∷ ys) all = ap (λ b. b || has ys x) (differ_up x y all.0) ∙ none_below x ys all.1

-- what is in a list, all of which is above
above : (x : ℕ) (ys : List ℕ) → AllByRecursion (λ y. x < y) ys → (n : ℕ) → has ys n ≡ true → x < n
above x [] all n h = absurd (true≢false (sym h))
above x (y ∷ ys) all n h =
    elim (nat_eq y n) as (λ b. nat_eq y n ≡ b → (b || has ys n) ≡ true → x < n) [
      | true ↦ λ e _. subst (λ k. x < k) (same y n e) all.0
      | false ↦ λ _ later. above x ys all.1 n later
    ] refl h

first_same : (x y : ℕ) (xs ys : List ℕ) → Rises (x ∷ xs) → Rises (y ∷ ys) → has (y ∷ ys) x ≡ true → has (x ∷ xs) y ≡ true → x ≡ y
first_same x y xs ys up down h k =
    elim (nat_eq y x) as (λ b. nat_eq y x ≡ b → (b || has ys x) ≡ true → x ≡ y) [
      | true ↦ λ e _. sym (same y x e)
      | false ↦ λ _ later. second (above y ys down.0 x later)
    ] refl h
  where
    second : y < x → x ≡ y
    second less =
        elim (nat_eq x y) as (λ b. nat_eq x y ≡ b → (b || has xs y) ≡ true → x ≡ y) [
          | true ↦ λ e _. same x y e
          | false ↦ λ _ later. absurd (let more = above x xs up.0 y later in omega (arith, less, more))
        ] refl k

abbrev SameMembers : List ℕ → List ℕ → Type 0
SameMembers xs ys = (n : ℕ) → has xs n ≡ has ys n

rest_same : (x : ℕ) (xs ys : List ℕ) → Rises (x ∷ xs) → Rises (x ∷ ys) → SameMembers (x ∷ xs) (x ∷ ys) → SameMembers xs ys
rest_same x xs ys up down members n =
    elim (nat_eq x n) as (λ b. nat_eq x n ≡ b → (b || has xs n) ≡ (b || has ys n) → has xs n ≡ has ys n) [
      | true ↦ λ e _. let is = same x n e in subst (λ k. has xs k ≡ has ys k) is (none_below x xs up.0 ∙ sym (none_below x ys down.0))
      | false ↦ λ _ h. h
    ] refl (members n)

false≢true : {A : Type 0} (b : Bool) → b ≡ false → b ≡ true → A
false≢true b f t = absurd (true≢false (sym t ∙ f))

unique : (xs ys : List ℕ) → Rises xs → Rises ys → SameMembers xs ys → xs ≡ ys
unique [] [] up down members = refl
unique [] (y ∷ ys) up down members = false≢true (has [] y) refl (members y ∙ has_first y ys)
unique (x ∷ xs) [] up down members = false≢true (has [] x) refl (sym (members x) ∙ has_first x xs)
unique (x ∷ xs) (y ∷ ys) up down members =
    let is : x ≡ y = first_same x y xs ys up down (sym (members x) ∙ has_first x xs) (members y ∙ has_first y ys) in
    let down2 = subst (λ k. Rises (k ∷ ys)) (sym is) down in
    let members2 = subst (λ k. SameMembers (x ∷ xs) (k ∷ ys)) (sym is) members in
    let rest = unique xs ys up.1 down.1 (rest_same x xs ys up down2 members2) in
    λ i. is i ∷ rest i

-- ---- the places of what passes

cond_above : (b : Bool) (x n : ℕ) (ys : List ℕ) → x < n → AllByRecursion (λ y. x < y) ys → AllByRecursion (λ y. x < y) (cond b (n ∷ ys) ys)
cond_above true x n ys here all = (here, all)
cond_above false x n ys here all = all

cond_rises : (b : Bool) (n : ℕ) (ys : List ℕ) → AllByRecursion (λ y. n < y) ys → Rises ys → Rises (cond b (n ∷ ys) ys)
cond_rises true n ys all up = (all, up)
cond_rises false n ys all up = up

module _ {X : Type 0} (test : X → Bool) where
  places_above : (x k : ℕ) (xs : List X) → x < k → AllByRecursion (λ y. x < y) (places_from test k xs)
  places_above x k [] h = tt
  places_above x k (y ∷ xs) h = cond_above (test y) x k (places_from test (suc k) xs) h (places_above x (suc k) xs (omega (arith, h)))

  pub places_rise : (k : ℕ) (xs : List X) → Rises (places_from test k xs)
  places_rise k [] = tt
  places_rise k (x ∷ xs) = cond_rises (test x) k (places_from test (suc k) xs) (places_above k (suc k) xs (omega arith)) (places_rise (suc k) xs)

  has_head : (b : Bool) (k : ℕ) (rest : List ℕ) → has rest k ≡ false → has (cond b (k ∷ rest) rest) k ≡ b
  has_head true k rest none = has_first k rest
  has_head false k rest none = none

  has_later : (b : Bool) (k n : ℕ) (rest : List ℕ) → nat_eq k n ≡ false → has (cond b (k ∷ rest) rest) n ≡ has rest n
  has_later true k n rest e = ap (λ c. c || has rest n) e
  has_later false k n rest e = refl

  has_places : (k : ℕ) (xs : List X) (place : ℕ) → has (places_from test k xs) (k + place) ≡ passes_at test xs place
  has_places k [] place = refl
  has_places k (x ∷ xs) zero =
      let e : k + 0 ≡ k = omega arith in
      ap (has (places_from test k (x ∷ xs))) e ∙ has_head (test x) k (places_from test (suc k) xs) (none_below k (places_from test (suc k) xs) (places_above k (suc k) xs (omega arith)))
  has_places k (x ∷ xs) (suc place) =
      let e : k + suc place ≡ suc k + place = omega arith in
      has_later (test x) k (k + suc place) (places_from test (suc k) xs) (differ k (k + suc place) (omega arith)) ∙ ap (has (places_from test (suc k) xs)) e ∙ has_places (suc k) xs place

-- ---- the candidates that pass

module _ (test : ℕ → Bool) where
  filter_above : (x : ℕ) (ys : List ℕ) → AllByRecursion (λ y. x < y) ys → AllByRecursion (λ y. x < y) (filter test ys)
  filter_above x [] all = tt
  filter_above x (y ∷ ys) all = cond_above (test y) x y (filter test ys) all.0 (filter_above x ys all.1)

  filter_rises : (xs : List ℕ) → Rises xs → Rises (filter test xs)
  filter_rises [] up = tt
  filter_rises (x ∷ xs) up = cond_rises (test x) x (filter test xs) (filter_above x xs up.0) (filter_rises xs up.1)

  filtered_at : (m b c : Bool) (x n : ℕ) (ns rest : List ℕ) → nat_eq x n ≡ b → (b ≡ true → m ≡ c) → has rest n ≡ (has ns n && c) → has (cond m (x ∷ rest) rest) n ≡ ((b || has ns n) && c)
  filtered_at true true c x n ns rest e is later = ap (λ k. k || has rest n) e ∙ is refl
  filtered_at true false c x n ns rest e is later = ap (λ k. k || has rest n) e ∙ later
  filtered_at false true true x n ns rest e is later = absurd (true≢false (sym (is refl)))
  filtered_at false true false x n ns rest e is later = later ∙ and_false (has ns n)
    where
      and_false : (b : Bool) → (b && false) ≡ false
      and_false true = refl
      and_false false = refl
  filtered_at false false c x n ns rest e is later = later

  has_filter : (ns : List ℕ) (n : ℕ) → has (filter test ns) n ≡ (has ns n && test n)
  has_filter [] n = refl
  has_filter (x ∷ ns) n = filtered_at (test x) (nat_eq x n) (test n) x n ns (filter test ns) refl (λ e. ap test (same x n e)) (has_filter ns n)

and_so : (a c : Bool) → (c ≡ true → a ≡ true) → (a && c) ≡ c
and_so true c h = refl
and_so false true h = h refl
and_so false false h = refl

-- candidates that rise, and have the place of each element that passes, give the places of all that pass
pub passing_places : {X : Type 0} (test : X → Bool) (xs : List X) (ns : List ℕ) → Rises ns → ((place : ℕ) → passes_at test xs place ≡ true → has ns place ≡ true)
    → filter (passes_at test xs) ns ≡ places_from test 0 xs
passing_places test xs ns up all =
    unique (filter (passes_at test xs) ns) (places_from test 0 xs) (filter_rises (passes_at test xs) ns up) (places_rise test 0 xs)
    (λ n. has_filter (passes_at test xs) ns n ∙ and_so (has ns n) (passes_at test xs n) (all n) ∙ sym (from_zero n))
  where
    from_zero : (n : ℕ) → has (places_from test 0 xs) n ≡ passes_at test xs n
    from_zero n = let e : n ≡ 0 + n = omega arith in ap (has (places_from test 0 xs)) e ∙ has_places test 0 xs n

-- ---- a sort and a dedup

all_less : (x : ℕ) (ys : List ℕ) → AllByRecursion (λ y. nat_cmp x y ≡ Less) ys → AllByRecursion (λ y. x < y) ys
all_less x [] all = tt
all_less x (y ∷ ys) all = (ranked x y Less (sym all.0), all_less x ys all.1)

rises : (xs : List ℕ) → IsStrictlySortedBy nat_cmp xs → Rises xs
unfolding IsStrictlySortedBy
rises [] s = tt
rises (x ∷ xs) s = (all_less x xs s.0, rises xs s.1)

pub rises_dedup : (xs kept : List ℕ) → IsSorted nat_cmp xs → IsFiltered (DiffersFromLast nat_eq) [] xs kept → Rises kept
rises_dedup xs kept order filtered = subst Rises (sym (dedup_is nat_eq xs kept filtered)) (rises (dedup nat_eq xs) (IsStrictlySortedBy-dedup nat_cmp_total unsigned_ties xs order))

turned : (x n : ℕ) → nat_eq x n ≡ nat_eq n x
turned x n = by (nat_eq x n) (nat_eq n x) refl refl
  where
    by : (a b : Bool) → nat_eq x n ≡ a → nat_eq n x ≡ b → a ≡ b
    by true true e f = refl
    by false false e f = refl
    by true false e f = absurd (true≢false (sym (subst (λ k. nat_eq k x ≡ true) (same x n e) (itself x)) ∙ f))
    by false true e f = absurd (true≢false (sym (subst (λ k. nat_eq k n ≡ true) (same n x f) (itself n)) ∙ e))

has_turned : (xs : List ℕ) (n : ℕ) → has xs n ≡ list_any (nat_eq n) xs
has_turned [] n = refl
has_turned (x ∷ xs) n = let first = turned x n in let rest = has_turned xs n in λ i. first i || rest i

pub has_dedup : (xs sorted kept : List ℕ) → IsPermutation xs sorted → IsFiltered (DiffersFromLast nat_eq) [] sorted kept → (n : ℕ) → has xs n ≡ true → has kept n ≡ true
has_dedup xs sorted kept moved filtered n h =
    let there = Contains-from_any same n xs (sym (has_turned xs n) ∙ h) in
    let still = Contains-dedup_nat sorted n (Contains-permutation xs sorted n moved there) in
    subst (λ ks. has ks n ≡ true) (sym (dedup_is nat_eq sorted kept filtered)) (has_turned (dedup nat_eq sorted) n ∙ list_any-from_Contains nat_eq_equiv n (dedup nat_eq sorted) still)

-- ---- all places

pub all_step : (p : ℕ) (xs ys : List ℕ) → ys ≡ xs ++ p ∷ [] → ((n : ℕ) → n < p → has xs n ≡ true) → (n : ℕ) → n < p + 1 → has ys n ≡ true
all_step p xs ys is all n h =
    subst (λ zs. has zs n ≡ true) (sym is) (has_append xs (p ∷ []) n ∙
    elim (nat_eq p n) as (λ b. nat_eq p n ≡ b → (has xs n || (b || false)) ≡ true) [
      | true ↦ λ _. or_right (has xs n) true refl
      | false ↦ λ e. or_left (has xs n) false (all n (below e))
    ] refl)
  where
    below : nat_eq p n ≡ false → n < p
    below e = elim (cases_lt n p) [
      | inl less ↦ less
      | inr more ↦ absurd (let q : p ≡ n = omega (arith, more, h) in true≢false (sym (subst (λ k. nat_eq p k ≡ true) q (itself p)) ∙ e))
    ]
