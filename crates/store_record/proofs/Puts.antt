-- Putting a field under a key, into a list whose keys are in byte order.
use Rattle.std.proofs.Common.{◌≡◌, ℕ, zero, suc, ◌<◌, ◌≤◌, List, [], ◌∷◌, length, get_or, set, is_eq, Less, Equal, Greater, Ordering, Err, nat_cmp, refl, sym, ap, ◌∙◌, arith}
use Rattle.std.proofs.lemmas.Map.Text.{is_eq-slice_cmp}
use Rattle.std.proofs.lemmas.Slice.Eq.{bytes_eq-Decides}
use Rattle.std.specs.Cmp.Lexicographic.{slice_cmp, nat_list_cmp_total}
use Rattle.std.specs.FinMap.Entries.{put, by_order}
use Rattle.std.specs.List.{AllByRecursion, insert}
use Rattle.std.specs.List.Sorted.{IsStrictlySortedBy, IsNonDecreasingBy, IsBinarySearchResult}
use Rattle.std.specs.Map.{keys_of}
use Rattle.std.specs.Ordering.{ordering_reverse, ordering_index}
use Rattle.gql_plain.proofs.InOrder.{below_at}
use Rattle.gql_plain.specs.Order.{AreInOrder}

abbrev order : List ℕ → List ℕ → Ordering
order = slice_cmp nat_cmp

below_all : (low key : List ℕ) (keys : List (List ℕ)) → order low key ≡ Less → AllByRecursion (λ k. order key k ≡ Less) keys → AllByRecursion (λ k. order low k ≡ Less) keys
below_all low key [] lt all = tt
below_all low key (k ∷ keys) lt all = (nat_list_cmp_total.trans low key k lt all.0, below_all low key keys lt all.1)

order_turns : (a b : List ℕ) (o : Ordering) → order a b ≡ o → order b a ≡ ordering_reverse o
order_turns a b o p = nat_list_cmp_total.antisymm b a ∙ ap ordering_reverse p

index_bound : (o : Ordering) → ordering_index o ≤ 2
index_bound Less = omega arith
index_bound Equal = omega arith
index_bound Greater = omega arith

index_rises : (a b key : List ℕ) → order a b ≡ Less → ordering_index (order a key) ≤ ordering_index (order b key)
index_rises a b key below = at (order b key) refl
  where
    at : (o : Ordering) → order b key ≡ o → ordering_index (order a key) ≤ ordering_index o
    at Less e = rw (nat_list_cmp_total.trans a b key below e) (omega arith)
    at Equal e =
        let over : order key a ≡ Greater = nat_list_cmp_total.congr key b a (order_turns b key Equal e) ∙ order_turns a b Less below in
        rw (order_turns key a Greater over) (omega arith)
    at Greater e = index_bound (order a key)

same_text : (a b : List ℕ) → order a b ≡ Equal → a ≡ b
same_text a b e = (bytes_eq-Decides a b).0 (sym (is_eq-slice_cmp a b) ∙ ap is_eq e)

module _ {X : Type 0} where
  rises : (key : List ℕ) (es : List (List ℕ × X)) → AreInOrder (keys_of es) → IsNonDecreasingBy (λ e. ordering_index (order e.0 key)) es
  unfolding IsStrictlySortedBy
  rises key [] sorted i j d le lt = absurd (omega arith)
  rises key (e ∷ es) sorted zero zero d le lt = omega arith
  rises key (e ∷ es) sorted zero (suc j) d le lt = index_rises e.0 (get_or es j d).0 key (below_at (λ x. x.0) (λ later. order e.0 later ≡ Less) es j d (omega arith) sorted.0)
  rises key (e ∷ es) sorted (suc i) zero d le lt = absurd (omega arith)
  rises key (e ∷ es) sorted (suc i) (suc j) d le lt = rises key es sorted.1 i j d (omega arith) (omega arith)

  below_put : (low key : List ℕ) (value : X) (es : List (List ℕ × X)) → order low key ≡ Less
      → AllByRecursion (λ k. order low k ≡ Less) (keys_of es) → AllByRecursion (λ k. order low k ≡ Less) (keys_of (put order key value es))
  below_put low key value [] lt all = (lt, tt)
  below_put low key value (e ∷ es) lt all =
      elim (order key e.0) as (λ o. AllByRecursion (λ k. order low k ≡ Less) (keys_of (by_order o ((key, value) ∷ e ∷ es) ((e.0, value) ∷ es) (e ∷ put order key value es)))) [
        | Less ↦ (lt, all)
        | Equal ↦ all
        | Greater ↦ (all.0, below_put low key value es lt all.1)
      ]

  pub AreInOrder-put : (key : List ℕ) (value : X) (es : List (List ℕ × X)) → AreInOrder (keys_of es) → AreInOrder (keys_of (put order key value es))
  unfolding IsStrictlySortedBy
  AreInOrder-put key value [] sorted = (tt, tt)
  AreInOrder-put key value (e ∷ es) sorted =
      elim (order key e.0) as (λ o. order key e.0 ≡ o → AreInOrder (keys_of (by_order o ((key, value) ∷ e ∷ es) ((e.0, value) ∷ es) (e ∷ put order key value es)))) [
        | Less ↦ λ p. ((p, below_all key e.0 (keys_of es) p sorted.0), sorted)
        | Equal ↦ λ p. sorted
        | Greater ↦ λ p. (below_put e.0 key value es (order_turns key e.0 Greater p) sorted.0, AreInOrder-put key value es sorted.1)
      ] refl

  -- a pair whose key is there has a new value
  put-found : (key : List ℕ) (value : X) (es : List (List ℕ × X)) (at : ℕ) (d : List ℕ × X) → AreInOrder (keys_of es) → at < length es
      → order (get_or es at d).0 key ≡ Equal → put order key value es ≡ set es at ((get_or es at d).0, value)
  unfolding IsStrictlySortedBy
  put-found key value [] at d sorted within same = absurd (omega arith)
  put-found key value (e ∷ es) zero d sorted within same =
      ap (λ o. by_order o ((key, value) ∷ e ∷ es) ((e.0, value) ∷ es) (e ∷ put order key value es)) (order_turns e.0 key Equal same)
  put-found key value (e ∷ es) (suc at) d sorted within same =
      let there = (get_or es at d).0 in
      let below : order e.0 there ≡ Less = below_at (λ x. x.0) (λ later. order e.0 later ≡ Less) es at d (omega arith) sorted.0 in
      let over : order key e.0 ≡ Greater = sym (nat_list_cmp_total.congr there key e.0 same) ∙ order_turns e.0 there Less below in
      ap (λ o. by_order o ((key, value) ∷ e ∷ es) ((e.0, value) ∷ es) (e ∷ put order key value es)) over
      ∙ ap (λ xs. e ∷ xs) (put-found key value es at d sorted.1 (omega arith) same)

  -- a pair takes the place of the one with its key
  pub put-in_place : (pair : List ℕ × X) (es : List (List ℕ × X)) (at : ℕ) (d : List ℕ × X) → AreInOrder (keys_of es) → at < length es
      → order (get_or es at d).0 pair.0 ≡ Equal → set es at pair ≡ put order pair.0 pair.1 es
  put-in_place pair es at d sorted within same =
      ap (λ k. set es at (k, pair.1)) (sym (same_text (get_or es at d).0 pair.0 same)) ∙ sym (put-found pair.0 pair.1 es at d sorted within same)

  -- the entry of a key that is not there goes between those below it and those above it
  pub put-absent : (key : List ℕ) (value : X) (es : List (List ℕ × X)) (at : ℕ) → at ≤ length es
      → ((k : ℕ) (d : List ℕ × X) → k < length es → k < at → order (get_or es k d).0 key ≡ Less)
      → ((k : ℕ) (d : List ℕ × X) → at ≤ k → k < length es → order (get_or es k d).0 key ≡ Greater)
      → put order key value es ≡ insert es at (key, value)
  put-absent key value [] zero within below over = refl
  put-absent key value [] (suc at) within below over = absurd (omega arith)
  put-absent key value (e ∷ es) zero within below over =
      ap (λ o. by_order o ((key, value) ∷ e ∷ es) ((e.0, value) ∷ es) (e ∷ put order key value es)) (order_turns e.0 key Greater (over zero e (omega arith) (omega arith)))
  put-absent key value (e ∷ es) (suc at) within below over =
      ap (λ o. by_order o ((key, value) ∷ e ∷ es) ((e.0, value) ∷ es) (e ∷ put order key value es)) (order_turns e.0 key Less (below zero e (omega arith) (omega arith)))
      ∙ ap (λ xs. e ∷ xs) (put-absent key value es at (omega arith)
      (λ k d lt at_k. below (suc k) d (omega arith) (omega arith))
      (λ k d le lt. over (suc k) d (omega arith) (omega arith)))

  -- what a binary search says of the key
  pub put-searched : (key : List ℕ) (value : X) (es : List (List ℕ × X)) (at : ℕ) → AreInOrder (keys_of es) → at ≤ length es
      → IsBinarySearchResult (λ e. order e.0 key) es (Err at) → put order key value es ≡ insert es at (key, value)
  put-searched key value es at sorted within parted =
      let parts = parted (rises key es sorted) in
      put-absent key value es at within (λ k d lt below. parts.0 k d (omega arith) below) (λ k d above lt. parts.1 k d above lt)
