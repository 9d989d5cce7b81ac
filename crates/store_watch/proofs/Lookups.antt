-- Looking rows up by their numbers, which rise, and by their places.
use Rattle.std.proofs.Common.{◌≡◌, ℕ, zero, suc, ◌<◌, ◌≤◌, ◌+◌, Bool, true, false, List, [], ◌∷◌, map, length, drop, get_or, slice_get, Option, Some, None, Ordering, Less, Equal, Greater, nat_cmp, is_some, true≢false, option_copied, Err, inl, inr, refl, sym, ap, subst, ◌∙◌, arith}
use Rattle.std.proofs.lemmas.Bool.{cases_lt}
use Rattle.std.proofs.lemmas.Cmp.{ranked}
use Rattle.std.proofs.lemmas.Option.{slice_get_past, slice_get_read, slice_get-get_or}
use Rattle.std.specs.Borrow.{Bor}
use Rattle.std.specs.List.{AllByRecursion, HoldsAt}
use Rattle.std.specs.List.Sorted.{IsNonDecreasingBy, IsBinarySearchResult}
use Rattle.std.specs.Option.{MatchOption}
use Rattle.std.specs.Ordering.{ordering_index}
use Rattle.plan_ir.specs.store_record.Keys.{Text}
use Rattle.store_watch.specs.Numbers.{IsPut, Rises, Seen, StandsUnder, Table, number_at, numbers_of, seen_at}
use Rattle.store_watch.specs.Places.{passes_at}
use Rattle.store_watch.specs.Rows.{seen_of}
use Rattle.store_watch.specs.declared.rows.Row.{Row}

-- ---- a place

-- what `get` gives
pub got : {X : Type 0} (xs : List X) (i : ℕ) (r : Option (Bor X)) → MatchOption r (length xs ≤ i) (λ x. (i < length xs) × HoldsAt (λ y. x.now ≡ y) xs i) → option_copied r ≡ slice_get xs i
got xs i None h = sym (slice_get_past xs i h)
got xs i (Some x) h = sym (slice_get_read xs (length xs) i x.now refl h.0 (h.1 x.now))

pub seen_length : (rows : List Row) → length (seen_of rows) ≡ length rows
seen_length [] = refl
seen_length (r ∷ rows) = ap suc (seen_length rows)

pub some_is : {X : Type 0} (x y : X) → Some x ≡ Some y → x ≡ y
some_is x y e = cc

pub none_some : {X A : Type 0} (x : X) → None ≡ Some x → A
none_some x e = absurd (true≢false (sym (ap is_some e)))

pub seen_here : (rows : List Row) (place : ℕ) (r : Row) → Some r ≡ slice_get rows place → seen_at (seen_of rows) place ≡ r.kept.seen
seen_here [] place r e = none_some r (sym e)
seen_here (x ∷ rows) zero r e = ap (λ (y : Row). y.kept.seen) (sym (some_is r x e))
seen_here (x ∷ rows) (suc place) r e = seen_here rows place r e

pub none_here : {A : Type 0} (rows : List Row) (place : ℕ) → place < length rows → None ≡ slice_get rows place → A
none_here [] place h e = absurd (omega arith)
none_here (x ∷ rows) zero h e = none_some x e
none_here (x ∷ rows) (suc place) h e = none_here rows place (omega arith) e

-- what holds at each place of the number
pub each_put : (t : Table) (n : ℕ) (rows : List Row) → ((place : ℕ) → place < length rows → number_at (seen_of rows) place ≡ n → StandsUnder t n (seen_at (seen_of rows) place)) → IsPut t n (seen_of rows)
each_put t n [] all = tt
each_put t n (r ∷ rows) all = ((λ e. all zero (omega arith) e), each_put t n rows (λ place h e. all (suc place) (omega (arith, h)) e))

-- ---- numbers that rise

above_at : (x : ℕ) (ws : List Seen) (k : ℕ) → k < length ws → AllByRecursion (λ y. x < y) (numbers_of ws) → x < number_at ws k
above_at x [] k h all = absurd (omega arith)
above_at x (w ∷ ws) zero h all = all.0
above_at x (w ∷ ws) (suc k) h all = above_at x ws k (omega arith) all.1

one_place : (ws : List Seen) (i j n : ℕ) → Rises (numbers_of ws) → i < length ws → j < length ws → number_at ws i ≡ n → number_at ws j ≡ n → i ≡ j
one_place [] i j n up h k e f = absurd (omega arith)
one_place (w ∷ ws) zero zero n up h k e f = refl
one_place (w ∷ ws) zero (suc j) n up h k e f = absurd (let more = above_at w.0 ws j (omega (arith, k)) up.0 in omega (arith, more, e, f))
one_place (w ∷ ws) (suc i) zero n up h k e f = absurd (let more = above_at w.0 ws i (omega (arith, h)) up.0 in omega (arith, more, e, f))
one_place (w ∷ ws) (suc i) (suc j) n up h k e f = ap suc (one_place ws i j n up.1 (omega (arith, h)) (omega (arith, k)) e f)

number_is : (rows : List Row) (k : ℕ) (d : Row) → k < length rows → (get_or rows k d).number ≡ number_at (seen_of rows) k
number_is [] k d h = absurd (omega arith)
number_is (r ∷ rows) zero d h = refl
number_is (r ∷ rows) (suc k) d h = number_is rows k d (omega arith)

numbers_up : (ws : List Seen) (i j : ℕ) → Rises (numbers_of ws) → i ≤ j → j < length ws → number_at ws i ≤ number_at ws j
numbers_up [] i j up le h = absurd (omega arith)
numbers_up (w ∷ ws) zero zero up le h = omega arith
numbers_up (w ∷ ws) zero (suc j) up le h = let more = above_at w.0 ws j (omega (arith, h)) up.0 in omega (arith, more)
numbers_up (w ∷ ws) (suc i) zero up le h = absurd (omega arith)
numbers_up (w ∷ ws) (suc i) (suc j) up le h = numbers_up ws i j up.1 (omega (arith, le)) (omega (arith, h))

-- ---- a binary search

index_bound : (o : Ordering) → ordering_index o ≤ 2
index_bound Less = omega arith
index_bound Equal = omega arith
index_bound Greater = omega arith

index_rises : (a b n : ℕ) → a ≤ b → ordering_index (nat_cmp a n) ≤ ordering_index (nat_cmp b n)
index_rises a b n le = at (nat_cmp a n) (nat_cmp b n) refl refl
  where
    at : (o p : Ordering) → nat_cmp a n ≡ o → nat_cmp b n ≡ p → ordering_index o ≤ ordering_index p
    at Less p e f = omega arith
    at o Greater e f = index_bound o
    at Equal Equal e f = omega arith
    at Equal Less e f = absurd (let x = ranked a n Equal (sym e) in let y = ranked b n Less (sym f) in omega (arith, le, x, y))
    at Greater Less e f = absurd (let x = ranked a n Greater (sym e) in let y = ranked b n Less (sym f) in omega (arith, le, x, y))
    at Greater Equal e f = absurd (let x = ranked a n Greater (sym e) in let y = ranked b n Equal (sym f) in omega (arith, le, x, y))

abbrev order : ℕ → Row → Ordering
order n r = nat_cmp r.number n

rises : (rows : List Row) (n : ℕ) → Rises (numbers_of (seen_of rows)) → IsNonDecreasingBy (λ r. ordering_index (order n r)) rows
rises rows n up i j d le h =
    let here = number_is rows i d (omega (arith, le, h)) in
    let there = number_is rows j d h in
    let more = numbers_up (seen_of rows) i j up le (omega (arith, h, seen_length rows)) in
    index_rises (get_or rows i d).number (get_or rows j d).number n (omega (arith, here, there, more))

-- the place that is found is the one of the number
pub place_found : (rows : List Row) (found place n : ℕ) → Rises (numbers_of (seen_of rows)) → found < length rows → ((d : Row) → order n (get_or rows found d) ≡ Equal)
    → place < length rows → number_at (seen_of rows) place ≡ n → Some found ≡ Some place
place_found [] found place n up h equal k e = absurd (omega arith)
place_found (r ∷ rows) found place n up h equal k e =
    let is : (get_or (r ∷ rows) found r).number ≡ n = ranked (get_or (r ∷ rows) found r).number n Equal (sym (equal r)) in
    ap Some (one_place (seen_of (r ∷ rows)) found place n up (omega (arith, h, seen_length (r ∷ rows))) (omega (arith, k, seen_length (r ∷ rows))) (sym (number_is (r ∷ rows) found r h) ∙ is) e)

-- where none is found there is none
pub none_found : {A : Type 0} (rows : List Row) (at place n : ℕ) → Rises (numbers_of (seen_of rows)) → IsBinarySearchResult (order n) rows (Err at)
    → place < length rows → number_at (seen_of rows) place ≡ n → A
none_found [] at place n up parted h e = absurd (omega arith)
none_found (r ∷ rows) at place n up parted h e =
    let is : (get_or (r ∷ rows) place r).number ≡ n = number_is (r ∷ rows) place r h ∙ e in
    elim (cases_lt place at) [
      | inl below ↦ absurd (let x = ranked (get_or (r ∷ rows) place r).number n Less (sym ((parted (rises (r ∷ rows) n up)).0 place r (omega arith) below)) in omega (arith, x, is))
      | inr above ↦ absurd (let x = ranked (get_or (r ∷ rows) place r).number n Greater (sym ((parted (rises (r ∷ rows) n up)).1 place r above h)) in omega (arith, x, is))
    ]

-- ---- what is at a place

pub passes_here : (test : Row → Bool) (rows : List Row) (place : ℕ) (r : Row) → Some r ≡ slice_get rows place → passes_at test rows place ≡ test r
passes_here test [] place r e = none_some r (sym e)
passes_here test (x ∷ rows) zero r e = let same : r ≡ x = some_is r x e in ap test (sym same)
passes_here test (x ∷ rows) (suc place) r e = passes_here test rows place r e

pub passes_none : (test : Row → Bool) (rows : List Row) (place : ℕ) → None ≡ slice_get rows place → passes_at test rows place ≡ false
passes_none test [] place e = refl
passes_none test (x ∷ rows) zero e = none_some x e
passes_none test (x ∷ rows) (suc place) e = passes_none test rows place e
