-- Lists in byte order that have the same texts are equal.
use Rattle.std.proofs.Common.{◌≡◌, ◌<◌, ℕ, zero, suc, length, slice_index_or, arith, Bool, true, false, ◌||◌, true≢false, List, [], ◌∷◌, Ordering, Less, Equal, Greater, nat_cmp, is_eq, bytes_eq, refl, sym, ap, subst, ◌∙◌, ◌⊎◌, inl, inr}
use Rattle.std.proofs.lemmas.Cmp.{tied_itself}
use Rattle.std.proofs.lemmas.Map.Text.{is_eq-slice_cmp}
use Rattle.std.proofs.lemmas.Slice.Eq.{bytes_eq-Decides}
use Rattle.std.specs.Bool.{Decides, one_answer}
use Rattle.std.specs.Cmp.Lexicographic.{slice_cmp, nat_list_cmp_total}
use Rattle.std.specs.List.{AllByRecursion, Contains}
use Rattle.std.specs.List.Sorted.{IsStrictlySortedBy}
use Rattle.std.specs.Ordering.{match_ordering, ordering_reverse}
use Rattle.gql_plain.proofs.InOrder.{AreInOrder-none}
use Rattle.gql_plain.specs.Order.{AreInOrder, AreSortedOf, has_text, with_text, sorted_texts}

abbrev order : List ℕ → List ℕ → Ordering
order = slice_cmp nat_cmp

or_cases : (a b : Bool) → (a || b) ≡ true → (a ≡ true) ⊎ (b ≡ true)
or_cases true b h = inl refl
or_cases false b h = inr h

or-true : (a : Bool) → (a || true) ≡ true
or-true true = refl
or-true false = refl

not_itself : (a : List ℕ) → order a a ≡ Less → ⊥
not_itself a h = true≢false (ap is_eq (sym (tied_itself nat_list_cmp_total a) ∙ h))

-- a text of the list is above what is below them all
below_text : (low text : List ℕ) (texts : List (List ℕ)) → AllByRecursion (λ later. order low later ≡ Less) texts → has_text texts text ≡ true → order low text ≡ Less
below_text low text [] all has = absurd (true≢false (sym has))
below_text low text (first ∷ texts) all has = elim (or_cases (bytes_eq first text) (has_text texts text) has) [
  | inl same ↦ subst (λ t. order low t ≡ Less) ((bytes_eq-Decides first text).0 same) all.0
  | inr later ↦ below_text low text texts all.1 later
]

has_first : (first : List ℕ) (texts : List (List ℕ)) → has_text (first ∷ texts) first ≡ true
has_first first texts = ap (λ b. b || has_text texts first) ((bytes_eq-Decides first first).1 refl)

-- of two lists with the same texts no first one is above the other's
first_not_above : (x y : List ℕ) (xs ys : List (List ℕ)) → AreInOrder (x ∷ xs) → AreInOrder (y ∷ ys) → has_text (x ∷ xs) y ≡ true → has_text (y ∷ ys) x ≡ true → x ≡ y
unfolding IsStrictlySortedBy
first_not_above x y xs ys a b has_y has_x = elim (or_cases (bytes_eq x y) (has_text xs y) has_y) [
  | inl same ↦ (bytes_eq-Decides x y).0 same
  | inr above ↦ elim (or_cases (bytes_eq y x) (has_text ys x) has_x) [
    | inl same ↦ sym ((bytes_eq-Decides y x).0 same)
    | inr over ↦ absurd (not_itself x (nat_list_cmp_total.trans x y x (below_text x y xs a.0 above) (below_text y x ys b.0 over)))
  ]
]

-- what is in the list, but not first, is in the rest
tail_has : (first text : List ℕ) (texts : List (List ℕ)) → order first text ≡ Less → has_text (first ∷ texts) text ≡ has_text texts text
tail_has first text texts below = ap (λ b. b || has_text texts text) (sym (is_eq-slice_cmp first text) ∙ ap is_eq below)

absent_first : (first text : List ℕ) (texts : List (List ℕ)) → AllByRecursion (λ later. order first later ≡ Less) texts → (b : Bool) → has_text texts first ≡ b → b ≡ false
absent_first first text texts all true e = absurd (not_itself first (below_text first first texts all e))
absent_first first text texts all false e = refl

same_tail : (x : List ℕ) (xs ys : List (List ℕ)) → AllByRecursion (λ later. order x later ≡ Less) xs → AllByRecursion (λ later. order x later ≡ Less) ys
    → ((text : List ℕ) → has_text (x ∷ xs) text ≡ has_text (x ∷ ys) text) → (text : List ℕ) → has_text xs text ≡ has_text ys text
same_tail x xs ys below over same text = at (bytes_eq x text) refl
  where
    at : (b : Bool) → bytes_eq x text ≡ b → has_text xs text ≡ has_text ys text
    at true e =
        subst (λ t. has_text xs t ≡ has_text ys t) ((bytes_eq-Decides x text).0 e)
        (absent_first x x xs below _ refl ∙ sym (absent_first x x ys over _ refl))
    at false e = sym (ap (λ b. b || has_text xs text) e) ∙ same text ∙ ap (λ b. b || has_text ys text) e

pub same_texts : (xs ys : List (List ℕ)) → AreInOrder xs → AreInOrder ys → ((text : List ℕ) → has_text xs text ≡ has_text ys text) → xs ≡ ys
unfolding IsStrictlySortedBy
same_texts [] [] a b same = refl
same_texts [] (y ∷ ys) a b same = absurd (true≢false (sym (has_first y ys) ∙ sym (same y)))
same_texts (x ∷ xs) [] a b same = absurd (true≢false (sym (has_first x xs) ∙ same x))
same_texts (x ∷ xs) (y ∷ ys) a b same =
    let first : x ≡ y = first_not_above x y xs ys a b (same y ∙ has_first y ys) (sym (same x) ∙ has_first x xs) in
    let over : AllByRecursion (λ later. order x later ≡ Less) ys = subst (λ t. AllByRecursion (λ later. order t later ≡ Less) ys) (sym first) b.0 in
    let rest = same_texts xs ys a.1 b.1 (same_tail x xs ys a.0 over (λ text. same text ∙ ap (λ t. has_text (t ∷ ys) text) (sym first))) in
    λ i. first i ∷ rest i

-- ---- `sorted_texts` is the list that a sort leaves

Contains-later : (first text : List ℕ) (texts : List (List ℕ)) → Contains texts text → Contains (first ∷ texts) text
Contains-later first text texts h = (suc h.0, omega (arith, h.1), h.2)

Contains-tail : (first text : List ℕ) (texts : List (List ℕ)) → Contains (first ∷ texts) text → (first ≡ text) ⊎ Contains texts text
Contains-tail first text texts h = at h.0 h.1 h.2
  where
    at : (k : ℕ) → k < length (first ∷ texts) → slice_index_or (first ∷ texts) k text ≡ text → (first ≡ text) ⊎ Contains texts text
    at zero within is = inl is
    at (suc k) within is = inr (k, omega arith, is)

-- the test decides whether the list has the text
pub has_text-Decides : (texts : List (List ℕ)) (text : List ℕ) → Decides (has_text texts text) (Contains texts text)
has_text-Decides [] text = (λ e. absurd (true≢false (sym e)), λ h. absurd (omega (arith, h.1)))
has_text-Decides (first ∷ texts) text = (
  λ e. elim (or_cases (bytes_eq first text) (has_text texts text) e) [
    | inl same ↦ (zero, omega arith, (bytes_eq-Decides first text).0 same)
    | inr later ↦ Contains-later first text texts ((has_text-Decides texts text).0 later)
  ],
  λ h. elim (Contains-tail first text texts h) [
    | inl same ↦ ap (λ b. b || has_text texts text) ((bytes_eq-Decides first text).1 same)
    | inr later ↦ ap (λ b. bytes_eq first text || b) ((has_text-Decides texts text).1 later) ∙ or-true (bytes_eq first text)
  ],
)

or_swap : (a b c : Bool) → (a || (b || c)) ≡ (b || (a || c))
or_swap true true c = refl
or_swap true false c = refl
or_swap false b c = refl

or_twice : (a b : Bool) → (a || b) ≡ (a || (a || b))
or_twice true b = refl
or_twice false b = refl

pub has_text-with_text : (text : List ℕ) (texts : List (List ℕ)) (one : List ℕ) → has_text (with_text text texts) one ≡ (bytes_eq text one || has_text texts one)
has_text-with_text text [] one = refl
has_text-with_text text (first ∷ texts) one = at (has_text-with_text text texts one) (order text first) refl
  where
    at : has_text (with_text text texts) one ≡ (bytes_eq text one || has_text texts one) → (o : Ordering) → order text first ≡ o
        → has_text (match_ordering o (text ∷ first ∷ texts) (first ∷ texts) (first ∷ with_text text texts)) one ≡ (bytes_eq text one || has_text (first ∷ texts) one)
    at more Less e = refl
    at more Equal e =
        let same : text ≡ first = (bytes_eq-Decides text first).0 (sym (is_eq-slice_cmp text first) ∙ ap is_eq e) in
        or_twice (bytes_eq first one) (has_text texts one) ∙ ap (λ t. bytes_eq t one || has_text (first ∷ texts) one) (sym same)
    at more Greater e = ap (λ b. bytes_eq first one || b) more ∙ or_swap (bytes_eq first one) (bytes_eq text one) (has_text texts one)

all_with_text : (P : List ℕ → Type 0) (text : List ℕ) (texts : List (List ℕ)) → AllByRecursion P texts → P text → AllByRecursion P (with_text text texts)
all_with_text P text [] all here = (here, tt)
all_with_text P text (first ∷ texts) all here = at (all_with_text P text texts all.1 here) (order text first)
  where
    at : AllByRecursion P (with_text text texts) → (o : Ordering) → AllByRecursion P (match_ordering o (text ∷ first ∷ texts) (first ∷ texts) (first ∷ with_text text texts))
    at more Less = (here, all)
    at more Equal = all
    at more Greater = (all.0, more)

above_too : (low text : List ℕ) (texts : List (List ℕ)) → order low text ≡ Less → AllByRecursion (λ later. order text later ≡ Less) texts → AllByRecursion (λ later. order low later ≡ Less) texts
above_too low text [] below all = tt
above_too low text (first ∷ texts) below all = (nat_list_cmp_total.trans low text first below all.0, above_too low text texts below all.1)

pub AreInOrder-with_text : (text : List ℕ) (texts : List (List ℕ)) → AreInOrder texts → AreInOrder (with_text text texts)
unfolding IsStrictlySortedBy
AreInOrder-with_text text [] sorted = (tt, tt)
AreInOrder-with_text text (first ∷ texts) sorted = at (AreInOrder-with_text text texts sorted.1) (order text first) refl
  where
    at : AreInOrder (with_text text texts) → (o : Ordering) → order text first ≡ o → AreInOrder (match_ordering o (text ∷ first ∷ texts) (first ∷ texts) (first ∷ with_text text texts))
    at more Less e = ((e, above_too text first texts e sorted.0), sorted)
    at more Equal e = sorted
    at more Greater e =
        let below : order first text ≡ Less = nat_list_cmp_total.antisymm first text ∙ ap ordering_reverse e in
        (all_with_text (λ later. order first later ≡ Less) text texts sorted.0 below, more)

pub AreInOrder-sorted_texts : (texts : List (List ℕ)) → AreInOrder (sorted_texts texts)
AreInOrder-sorted_texts [] = AreInOrder-none
AreInOrder-sorted_texts (text ∷ texts) = AreInOrder-with_text text (sorted_texts texts) (AreInOrder-sorted_texts texts)

pub has_text-sorted_texts : (texts : List (List ℕ)) (one : List ℕ) → has_text (sorted_texts texts) one ≡ has_text texts one
has_text-sorted_texts [] one = refl
has_text-sorted_texts (text ∷ texts) one = has_text-with_text text (sorted_texts texts) one ∙ ap (λ b. bytes_eq text one || b) (has_text-sorted_texts texts one)

pub AreSortedOf-is : (texts sorted : List (List ℕ)) → AreSortedOf texts sorted → sorted ≡ sorted_texts texts
AreSortedOf-is texts sorted h = same_texts sorted (sorted_texts texts) h.0 (AreInOrder-sorted_texts texts) (λ one.
    let same : Decides (has_text texts one) (Contains sorted one) =
    (λ e. (h.1 one).1 ((has_text-Decides texts one).0 e), λ c. (has_text-Decides texts one).1 ((h.1 one).0 c)) in
    one_answer (has_text sorted one) (has_text texts one) (has_text-Decides sorted one) same ∙ sym (has_text-sorted_texts texts one))
