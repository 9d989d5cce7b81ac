-- A text is put at its place among texts in byte order.
use Rattle.std.proofs.Common.{◌≡◌, ℕ, zero, suc, ◌<◌, ◌≤◌, Bool, true, false, ◌||◌, List, [], ◌∷◌, ◌++◌, length, get_or, Less, Equal, Greater, Ordering, Err, bytes_eq, nat_cmp, refl, sym, ap, ◌∙◌, arith}
use Rattle.std.specs.Cmp.Lexicographic.{slice_cmp, nat_list_cmp_total}
use Rattle.std.specs.List.{AllByRecursion, insert}
use Rattle.std.specs.List.Sorted.{IsStrictlySortedBy, IsNonDecreasingBy, IsBinarySearchResult}
use Rattle.std.specs.Ordering.{match_ordering, ordering_reverse, ordering_index}
use Rattle.plan_ir.proofs.gql_plain_laws.SortedTexts.{AreInOrder-sorted_texts, AreInOrder-with_text, has_text-sorted_texts, has_text-with_text, same_texts}
use Rattle.plan_ir.specs.gql_plain.Order.{AreInOrder, has_text, sorted_texts, with_text}

abbrev order : List ℕ → List ℕ → Ordering
order = slice_cmp nat_cmp

order_turns : (a b : List ℕ) (o : Ordering) → order a b ≡ o → order b a ≡ ordering_reverse o
order_turns a b o p = nat_list_cmp_total.antisymm b a ∙ ap ordering_reverse p

index_bound : (o : Ordering) → ordering_index o ≤ 2
index_bound Less = omega arith
index_bound Equal = omega arith
index_bound Greater = omega arith

index_rises : (a b key : List ℕ) → order a b ≡ Less → ordering_index (order a key) ≤ ordering_index (order b key)
index_rises a b key below = at (order b key) refl
  where
    at : (o : Ordering) → order b key ≡ o → ordering_index (order a key) ≤ ordering_index o
    at Less e = rw (nat_list_cmp_total.trans a b key below e) (omega arith)
    at Equal e =
        let over : order key a ≡ Greater = nat_list_cmp_total.congr key b a (order_turns b key Equal e) ∙ order_turns a b Less below in
        rw (order_turns key a Greater over) (omega arith)
    at Greater e = index_bound (order a key)

below_of : (low : List ℕ) (ts : List (List ℕ)) (i : ℕ) (d : List ℕ) → i < length ts → AllByRecursion (λ later. order low later ≡ Less) ts → order low (get_or ts i d) ≡ Less
below_of low [] i d h all = absurd (omega arith)
below_of low (t ∷ ts) zero d h all = all.0
below_of low (t ∷ ts) (suc i) d h all = below_of low ts i d (omega arith) all.1

rises : (key : List ℕ) (ts : List (List ℕ)) → AreInOrder ts → IsNonDecreasingBy (λ t. ordering_index (order t key)) ts
unfolding IsStrictlySortedBy
rises key [] sorted i j d le lt = absurd (omega arith)
rises key (t ∷ ts) sorted zero zero d le lt = omega arith
rises key (t ∷ ts) sorted zero (suc j) d le lt = index_rises t (get_or ts j d) key (below_of t ts j d (omega arith) sorted.0)
rises key (t ∷ ts) sorted (suc i) zero d le lt = absurd (omega arith)
rises key (t ∷ ts) sorted (suc i) (suc j) d le lt = rises key ts sorted.1 i j d (omega arith) (omega arith)

-- ---- the text is there

pub with_text-found : (key : List ℕ) (ts : List (List ℕ)) (at : ℕ) (d : List ℕ) → AreInOrder ts → at < length ts → order (get_or ts at d) key ≡ Equal → with_text key ts ≡ ts
unfolding IsStrictlySortedBy
with_text-found key [] at d sorted within same = absurd (omega arith)
with_text-found key (t ∷ ts) zero d sorted within same = ap (λ o. match_ordering o (key ∷ t ∷ ts) (t ∷ ts) (t ∷ with_text key ts)) (order_turns t key Equal same)
with_text-found key (t ∷ ts) (suc at) d sorted within same =
    let there = get_or ts at d in
    let below : order t there ≡ Less = below_of t ts at d (omega arith) sorted.0 in
    let over : order key t ≡ Greater = sym (nat_list_cmp_total.congr there key t same) ∙ order_turns t there Less below in
    ap (λ o. match_ordering o (key ∷ t ∷ ts) (t ∷ ts) (t ∷ with_text key ts)) over
    ∙ ap (λ xs. t ∷ xs) (with_text-found key ts at d sorted.1 (omega arith) same)

-- ---- the text is not there: it goes between those below it and those above it

with_text-absent : (key : List ℕ) (ts : List (List ℕ)) (at : ℕ) → at ≤ length ts
    → ((k : ℕ) (d : List ℕ) → k < length ts → k < at → order (get_or ts k d) key ≡ Less)
    → ((k : ℕ) (d : List ℕ) → at ≤ k → k < length ts → order (get_or ts k d) key ≡ Greater)
    → with_text key ts ≡ insert ts at key
with_text-absent key [] zero within below over = refl
with_text-absent key [] (suc at) within below over = absurd (omega arith)
with_text-absent key (t ∷ ts) zero within below over =
    ap (λ o. match_ordering o (key ∷ t ∷ ts) (t ∷ ts) (t ∷ with_text key ts)) (order_turns t key Greater (over zero t (omega arith) (omega arith)))
with_text-absent key (t ∷ ts) (suc at) within below over =
    ap (λ o. match_ordering o (key ∷ t ∷ ts) (t ∷ ts) (t ∷ with_text key ts)) (order_turns t key Less (below zero t (omega arith) (omega arith)))
    ∙ ap (λ xs. t ∷ xs) (with_text-absent key ts at (omega arith)
    (λ k d lt at_k. below (suc k) d (omega arith) (omega arith))
    (λ k d le lt. over (suc k) d (omega arith) (omega arith)))

-- what a binary search says of the text
pub with_text-searched : (key : List ℕ) (ts : List (List ℕ)) (at : ℕ) → AreInOrder ts → at ≤ length ts → IsBinarySearchResult (λ t. order t key) ts (Err at) → with_text key ts ≡ insert ts at key
with_text-searched key ts at sorted within parted =
    let parts = parted (rises key ts sorted) in
    with_text-absent key ts at within (λ k d lt below. parts.0 k d (omega arith) below) (λ k d above lt. parts.1 k d above lt)

-- ---- the last text of a list

or_swap : (a b c : Bool) → (a || (b || c)) ≡ (b || (a || c))
or_swap true true c = refl
or_swap true false c = refl
or_swap false b c = refl

has_last : (ts : List (List ℕ)) (t one : List ℕ) → has_text (ts ++ t ∷ []) one ≡ (bytes_eq t one || has_text ts one)
has_last [] t one = refl
has_last (s ∷ ts) t one = ap (λ b. bytes_eq s one || b) (has_last ts t one) ∙ or_swap (bytes_eq s one) (bytes_eq t one) (has_text ts one)

-- it is put among those before it
pub sorted_last : (t : List ℕ) (ts : List (List ℕ)) → with_text t (sorted_texts ts) ≡ sorted_texts (ts ++ t ∷ [])
sorted_last t ts =
    same_texts (with_text t (sorted_texts ts)) (sorted_texts (ts ++ t ∷ [])) (AreInOrder-with_text t (sorted_texts ts) (AreInOrder-sorted_texts ts)) (AreInOrder-sorted_texts (ts ++ t ∷ [])) (λ one.
    has_text-with_text t (sorted_texts ts) one
    ∙ ap (λ b. bytes_eq t one || b) (has_text-sorted_texts ts one)
    ∙ sym (has_text-sorted_texts (ts ++ t ∷ []) one ∙ has_last ts t one))
