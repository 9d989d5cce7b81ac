-- What a binary search finds in a list whose texts are in byte order.
use Rattle.std.proofs.Common.{◌≡◌, ℕ, zero, suc, ◌<◌, ◌≤◌, Bool, true, false, ◌||◌, List, [], ◌∷◌, length, map, get_or, Some, None, Ok, Err, Result, is_ok, inl, inr, Ordering, Less, Equal, Greater, nat_cmp, is_eq, bytes_eq, refl, sym, ap, subst, ◌∙◌, arith}
use Rattle.std.proofs.lemmas.Bool.{cases_lt}
use Rattle.std.proofs.lemmas.List.{map-id}
use Rattle.std.proofs.lemmas.Map.Text.{is_eq-slice_cmp}
use Rattle.std.proofs.lemmas.Slice.Eq.{bytes_eq-Decides}
use Rattle.std.specs.Cmp.Lexicographic.{slice_cmp, nat_list_cmp_total}
use Rattle.std.specs.List.{list_any}
use Rattle.std.specs.List.Sorted.{IsStrictlySortedBy, IsNonDecreasingBy, IsSearchInRange, IsBinarySearchResult}
use Rattle.std.specs.Map.{keys_of}
use Rattle.std.specs.Ordering.{ordering_index}
use Rattle.gql_plain.proofs.InOrder.{below_at}
use Rattle.gql_plain.specs.Order.{AreInOrder, has_text, member_at}

abbrev order : List ℕ → List ℕ → Ordering
order = slice_cmp nat_cmp

same_text : (a b : List ℕ) → order a b ≡ Equal → a ≡ b
same_text a b e = (bytes_eq-Decides a b).0 (sym (is_eq-slice_cmp a b) ∙ ap is_eq e)

index_bound : (o : Ordering) → ordering_index o ≤ 2
index_bound Less = omega arith
index_bound Equal = omega arith
index_bound Greater = omega arith

index_rises : (a b text : List ℕ) → order a b ≡ Less → ordering_index (order a text) ≤ ordering_index (order b text)
index_rises a b text below = at (order b text) refl
  where
    at : (o : Ordering) → order b text ≡ o → ordering_index (order a text) ≤ ordering_index o
    at Less e = rw (nat_list_cmp_total.trans a b text below e) (omega arith)
    at Equal e = rw (subst (λ t. order a t ≡ Less) (same_text b text e) below) (omega arith)
    at Greater e = index_bound (order a text)

module _ {X : Type 0} (key : X → List ℕ) (text : List ℕ) where
  rises : (xs : List X) → AreInOrder (map key xs) → IsNonDecreasingBy (λ x. ordering_index (order (key x) text)) xs
  unfolding IsStrictlySortedBy
  rises [] sorted i j d le lt = absurd (omega arith)
  rises (x ∷ xs) sorted zero zero d le lt = omega arith
  rises (x ∷ xs) sorted zero (suc j) d le lt = index_rises (key x) (key (get_or xs j d)) text (below_at key (λ later. order (key x) later ≡ Less) xs j d (omega arith) sorted.0)
  rises (x ∷ xs) sorted (suc i) zero d le lt = absurd (omega arith)
  rises (x ∷ xs) sorted (suc i) (suc j) d le lt = rises xs sorted.1 i j d (omega arith) (omega arith)

  -- no text of the list is the one that was looked for
  pub absent : (xs : List X) (at : ℕ) → AreInOrder (map key xs) → IsBinarySearchResult (λ x. order (key x) text) xs (Err at)
      → (k : ℕ) (d : X) → k < length xs → bytes_eq (key (get_or xs k d)) text ≡ false
  absent xs at sorted parted k d lt =
      sym (is_eq-slice_cmp (key (get_or xs k d)) text) ∙ elim (cases_lt k at) [
        | inl below ↦ ap is_eq ((parted (rises xs sorted)).0 k d (omega arith) below)
        | inr above ↦ ap is_eq ((parted (rises xs sorted)).1 k d above lt)
      ]

or-true : (a : Bool) → (a || true) ≡ true
or-true true = refl
or-true false = refl

any_none : {X : Type 0} (test : X → Bool) (xs : List X) → ((k : ℕ) (d : X) → k < length xs → test (get_or xs k d) ≡ false) → list_any test xs ≡ false
any_none test [] none = refl
any_none test (x ∷ xs) none = rw (none zero x (omega arith)) (any_none test xs (λ k d lt. none (suc k) d (omega arith)))

any_at : {X : Type 0} (test : X → Bool) (xs : List X) (k : ℕ) (d : X) → k < length xs → test (get_or xs k d) ≡ true → list_any test xs ≡ true
any_at test [] k d lt here = absurd (omega arith)
any_at test (x ∷ xs) zero d lt here = ap (λ b. b || list_any test xs) here
any_at test (x ∷ xs) (suc k) d lt here = ap (λ b. test x || b) (any_at test xs k d (omega arith) here) ∙ or-true (test x)

equal_text : (a text : List ℕ) → order a text ≡ Equal → bytes_eq a text ≡ true
equal_text a text e = sym (is_eq-slice_cmp a text) ∙ ap is_eq e

-- the search finds the text where the list has it
pub has_text-searched : (texts : List (List ℕ)) (text : List ℕ) (r : Result ℕ ℕ) → AreInOrder texts → IsSearchInRange r (length texts)
    → IsBinarySearchResult (λ one. order one text) texts r → is_ok r ≡ has_text texts text
has_text-searched texts text (Ok at) sorted lt equal = sym (any_at (λ one. bytes_eq one text) texts at [] lt (equal_text _ text (equal [])))
has_text-searched texts text (Err at) sorted le parted =
    sym (any_none (λ one. bytes_eq one text) texts (absent (λ one. one) text texts at (subst AreInOrder (sym (map-id texts)) sorted) parted))

pub member_at-none : {X : Type 0} (es : List (List ℕ × X)) (text : List ℕ) → ((k : ℕ) (d : List ℕ × X) → k < length es → bytes_eq (get_or es k d).0 text ≡ false) → member_at es text ≡ None
member_at-none [] text none = refl
member_at-none (e ∷ es) text none = rw (none zero e (omega arith)) (member_at-none es text (λ k d lt. none (suc k) d (omega arith)))

-- the pair of a key is the only one of that key
pub member_at-some : {X : Type 0} (es : List (List ℕ × X)) (text : List ℕ) (k : ℕ) (d : List ℕ × X) → k < length es → AreInOrder (keys_of es)
    → order (get_or es k d).0 text ≡ Equal → member_at es text ≡ Some (get_or es k d).1
unfolding IsStrictlySortedBy
member_at-some [] text k d lt sorted equal = absurd (omega arith)
member_at-some (e ∷ es) text zero d lt sorted equal = rw (equal_text e.0 text equal)
member_at-some (e ∷ es) text (suc k) d lt sorted equal =
    let below : order e.0 (get_or es k d).0 ≡ Less = below_at (λ x. x.0) (λ later. order e.0 later ≡ Less) es k d (omega arith) sorted.0 in
    let apart : bytes_eq e.0 text ≡ false = sym (is_eq-slice_cmp e.0 text) ∙ ap is_eq (subst (λ t. order e.0 t ≡ Less) (same_text _ text equal) below) in
    rw apart (member_at-some es text k d (omega arith) sorted.1 equal)
