-- Names sorted with their places, and what a search finds among them.
use Rattle.std.proofs.Common.{◌≡◌, ℕ, zero, suc, ◌+◌, ◌<◌, ◌≤◌, Bool, true, false, true≢false, cond, not, ◌&&◌, ◌||◌, List, [], ◌∷◌, ◌++◌, length, map, get_or, Option, Some, None, option_map, is_some, slice_get, Ordering, Less, Equal, Greater, nat_cmp, is_eq, bytes_eq, refl, sym, ap, subst, ◌∙◌, arith}
use Rattle.std.proofs.lemmas.Map.Text.{is_eq-slice_cmp}
use Rattle.std.proofs.lemmas.Slice.Eq.{bytes_eq-Decides}
use Rattle.std.proofs.lemmas.List.Kept.{IsStrictlySortedBy-dedup}
use Rattle.std.specs.Cmp.Lexicographic.{slice_cmp, nat_list_cmp_total}
use Rattle.std.specs.List.{filter, dedup, dedup_from, list_any}
use Rattle.std.specs.List.Sorted.{IsStrictlySortedBy, IsStableBy, IsSortedBy, IsSorted, ties}
use Rattle.std.proofs.lemmas.Cmp.{tied_itself}
use Rattle.std.proofs.lemmas.List.{length-map}
use Rattle.std.specs.Ordering.{is_lt, ordering_reverse}
use Rattle.gql_ast.proofs.gql_plain_laws.InOrder.{below_at}
use Rattle.gql_graph.specs.gql_plain.Order.{AreInOrder}
use Rattle.schema_tables.proofs.Counting.{eq_swap}
use Rattle.schema_tables.proofs.Finding.{suc_of}
use Rattle.schema_tables.specs.Indexes.{IsIndexOf, IsSortedFrom, name_at, name_or_none, place_among, place_of}
use Rattle.schema_tables.specs.Places.{first_at, first_place, first_that}
use Rattle.schema_tables.specs.Types.{Text}

abbrev order : Text → Text → Ordering
order = slice_cmp nat_cmp

same_text : (a b : Text) → order a b ≡ Equal → a ≡ b
same_text a b e = (bytes_eq-Decides a b).0 (sym (is_eq-slice_cmp a b) ∙ ap is_eq e)

equal_text : (a b : Text) → order a b ≡ Equal → bytes_eq a b ≡ true
equal_text a b e = sym (is_eq-slice_cmp a b) ∙ ap is_eq e

-- ---- what a search finds

module _ {X : Type 0} (key : X → Text) (text : Text) where
  pub found_at : (xs : List X) (k : ℕ) (d : X) → k < length xs → AreInOrder (map key xs) → order (key (get_or xs k d)) text ≡ Equal
      → first_that (λ x. bytes_eq (key x) text) xs ≡ Some (get_or xs k d)
  unfolding IsStrictlySortedBy
  found_at [] k d lt sorted equal = absurd (omega arith)
  found_at (x ∷ xs) zero d lt sorted equal = ap (λ b. cond b (Some x) (first_that (λ y. bytes_eq (key y) text) xs)) (equal_text (key x) text equal)
  found_at (x ∷ xs) (suc k) d lt sorted equal =
      let below : order (key x) (key (get_or xs k d)) ≡ Less = below_at key (λ later. order (key x) later ≡ Less) xs k d (omega arith) sorted.0 in
      let apart : bytes_eq (key x) text ≡ false = sym (is_eq-slice_cmp (key x) text) ∙ ap is_eq (subst (λ t. order (key x) t ≡ Less) (same_text _ text equal) below) in
      ap (λ b. cond b (Some x) (first_that (λ y. bytes_eq (key y) text) xs)) apart ∙ found_at xs k d (omega arith) sorted.1 equal

  pub not_found : (xs : List X) → ((k : ℕ) (d : X) → k < length xs → bytes_eq (key (get_or xs k d)) text ≡ false) → first_that (λ x. bytes_eq (key x) text) xs ≡ None
  not_found [] none = refl
  not_found (x ∷ xs) none =
      ap (λ b. cond b (Some x) (first_that (λ y. bytes_eq (key y) text) xs)) (none zero x (omega arith)) ∙ not_found xs (λ k d lt. none (suc k) d (omega arith))

-- ---- a stable sort keeps the first element of each name

abbrev head_of : {X : Type 0} → List X → Option X
head_of [] = None
head_of (x ∷ xs) = Some x

first_in : {X : Type 0} (test : X → Bool) (xs : List X) → first_that test xs ≡ head_of (filter test xs)
first_in test [] = refl
first_in test (x ∷ xs) = on (first_in test xs) (test x)
  where
    on : first_that test xs ≡ head_of (filter test xs) → (b : Bool) → cond b (Some x) (first_that test xs) ≡ head_of (cond b (x ∷ filter test xs) (filter test xs))
    on rest true = refl
    on rest false = rest

filter_same : {X : Type 0} (p q : X → Bool) (xs : List X) → ((x : X) → p x ≡ q x) → filter p xs ≡ filter q xs
filter_same p q [] same = refl
filter_same p q (x ∷ xs) same = (λ i. cond (same x i) (x ∷ filter_same p q xs same i) (filter_same p q xs same i))

passes_found : {X : Type 0} (test : X → Bool) (xs : List X) (x : X) → first_that test xs ≡ Some x → test x ≡ true
passes_found test [] x e = cc
passes_found test (y ∷ ys) x e = on (passes_found test ys x) (test y) refl e
  where
    on : (first_that test ys ≡ Some x → test x ≡ true) → (b : Bool) → test y ≡ b → cond b (Some y) (first_that test ys) ≡ Some x → test x ≡ true
    on rest true here e = let same : y ≡ x = cc in ap test (sym same) ∙ here
    on rest false here e = rest e

tie_of : (o p : Ordering) → p ≡ ordering_reverse o → (not (is_lt o) && not (is_lt p)) ≡ is_eq o
tie_of Less p e = refl
tie_of Equal p e = ap (λ x. not (is_lt x)) e
tie_of Greater p e = ap (λ x. not (is_lt x)) e

same_order : (a : Text) → order a a ≡ Equal
same_order a = tied_itself nat_list_cmp_total a

module _ {X : Type 0} (key : X → Text) where
  abbrev under : X → X → Bool
  under x y = is_lt (order (key x) (key y))

  abbrev is_at : Text → X → Bool
  is_at n x = bytes_eq (key x) n

  tied : (x y : X) (n : Text) → key x ≡ n → ties under x y ≡ is_at n y
  tied x y n e =
      tie_of (order (key x) (key y)) (order (key y) (key x)) (nat_list_cmp_total.antisymm (key y) (key x))
      ∙ is_eq-slice_cmp (key x) (key y) ∙ ap (λ m. bytes_eq m (key y)) e ∙ eq_swap n (key y)

  firsts_alike : (xs ys : List X) (n : Text) (x : X) → IsStableBy under xs ys → key x ≡ n → first_that (is_at n) ys ≡ first_that (is_at n) xs
  firsts_alike xs ys n x stable e =
      first_in (is_at n) ys
      ∙ ap head_of (filter_same (is_at n) (ties under x) ys (λ y. sym (tied x y n e)) ∙ stable x ∙ filter_same (ties under x) (is_at n) xs (λ y. tied x y n e))
      ∙ sym (first_in (is_at n) xs)

  pub first_kept : (xs ys : List X) (n : Text) → IsStableBy under xs ys → first_that (is_at n) ys ≡ first_that (is_at n) xs
  first_kept xs ys n stable = on (first_that (is_at n) ys) (first_that (is_at n) xs) refl refl
    where
      named : (zs : List X) (z : X) → first_that (is_at n) zs ≡ Some z → key z ≡ n
      named zs z e = (bytes_eq-Decides (key z) n).0 (passes_found (is_at n) zs z e)

      on : (a b : Option X) → first_that (is_at n) ys ≡ a → first_that (is_at n) xs ≡ b → first_that (is_at n) ys ≡ first_that (is_at n) xs
      on (Some y) b there here = firsts_alike xs ys n y stable (named ys y there)
      on None (Some x) there here = firsts_alike xs ys n x stable (named xs x here)
      on None None there here = there ∙ sym here

  -- ---- what stays of those that follow one of the same name

  abbrev alike : X → X → Bool
  alike x y = bytes_eq (key x) (key y)

  first_from : (n : Text) (x : X) (xs : List X) → first_that (is_at n) (dedup_from alike x xs) ≡ first_that (is_at n) (x ∷ xs)
  first_from n x [] = refl
  first_from n x (y ∷ ys) = on (first_from n x ys) (first_from n y ys) (alike y x) refl (is_at n x) refl
    where
      on : first_that (is_at n) (dedup_from alike x ys) ≡ first_that (is_at n) (x ∷ ys) → first_that (is_at n) (dedup_from alike y ys) ≡ first_that (is_at n) (y ∷ ys)
          → (b : Bool) → alike y x ≡ b → (here : Bool) → is_at n x ≡ here
          → first_that (is_at n) (cond b (dedup_from alike x ys) (x ∷ dedup_from alike y ys)) ≡ first_that (is_at n) (x ∷ y ∷ ys)
      on same next true e true at = same ∙ ap (λ h. cond h (Some x) (first_that (is_at n) ys)) at ∙ sym (ap (λ h. cond h (Some x) (first_that (is_at n) (y ∷ ys))) at)
      on same next true e false at =
          let gone : is_at n y ≡ false = ap (λ m. bytes_eq m n) ((bytes_eq-Decides (key y) (key x)).0 e) ∙ at in
          same ∙ ap (λ h. cond h (Some x) (first_that (is_at n) ys)) at ∙ sym (ap (λ h. cond h (Some y) (first_that (is_at n) ys)) gone)
          ∙ sym (ap (λ h. cond h (Some x) (first_that (is_at n) (y ∷ ys))) at)
      on same next false e here at = ap (λ r. cond (is_at n x) (Some x) r) next

  pub first_of_kept : (n : Text) (xs : List X) → first_that (is_at n) (dedup alike xs) ≡ first_that (is_at n) xs
  first_of_kept n [] = refl
  first_of_kept n (x ∷ xs) = first_from n x xs

  names_from : (x : X) (xs : List X) → map key (dedup_from alike x xs) ≡ dedup_from bytes_eq (key x) (map key xs)
  names_from x [] = refl
  names_from x (y ∷ ys) = on (names_from x ys) (names_from y ys) (alike y x)
    where
      on : map key (dedup_from alike x ys) ≡ dedup_from bytes_eq (key x) (map key ys) → map key (dedup_from alike y ys) ≡ dedup_from bytes_eq (key y) (map key ys)
          → (b : Bool) → map key (cond b (dedup_from alike x ys) (x ∷ dedup_from alike y ys)) ≡ cond b (dedup_from bytes_eq (key x) (map key ys)) (key x ∷ dedup_from bytes_eq (key y) (map key ys))
      on same next true = same
      on same next false = ap (λ ns. key x ∷ ns) next

  names_of_kept : (xs : List X) → map key (dedup alike xs) ≡ dedup bytes_eq (map key xs)
  names_of_kept [] = refl
  names_of_kept (x ∷ xs) = names_from x xs

  key_at : (xs : List X) (k : ℕ) (d : X) (e : Text) → k < length xs → get_or (map key xs) k e ≡ key (get_or xs k d)
  key_at [] k d e lt = absurd (omega arith)
  key_at (x ∷ xs) zero d e lt = refl
  key_at (x ∷ xs) (suc k) d e lt = key_at xs k d e (omega arith)

  names_sorted : (xs : List X) → IsSortedBy under xs → IsSorted order (map key xs)
  names_sorted [] up k d low high = absurd (omega arith)
  names_sorted (x ∷ xs) up k d low high =
      let size : length (map key xs) ≡ length xs = length-map xs key in
      let before : get_or (map key (x ∷ xs)) k d ≡ key (get_or (x ∷ xs) k x) = key_at (x ∷ xs) k x d (omega (arith, size)) in
      let after : get_or (map key (x ∷ xs)) (k + 1) d ≡ key (get_or (x ∷ xs) (k + 1) x) = key_at (x ∷ xs) (k + 1) x d (omega (arith, size)) in
      (λ i. is_lt (order (after i) (before i))) ∙ up k x low (omega (arith, size))

  pub kept_in_order : (xs : List X) → IsSortedBy under xs → AreInOrder (map key (dedup alike xs))
  kept_in_order xs up =
      subst AreInOrder (sym (names_of_kept xs))
      (IsStrictlySortedBy-dedup nat_list_cmp_total (λ a b. sym (is_eq-slice_cmp a b)) (map key xs) (names_sorted xs up))

-- ---- names with their places

abbrev name_of : Text × ℕ → Text
name_of p = p.0

abbrev at_of : Text × ℕ → ℕ
at_of p = p.1

pub placed_more : (ps : List (Text × ℕ)) (m : Text) (at : ℕ) (n : Text) → place_among (ps ++ (m, at) ∷ []) n ≡ first_place (place_among ps n) (bytes_eq m n) at
placed_more [] m at n = on (bytes_eq m n)
  where
    on : (b : Bool) → option_map at_of (cond b (Some (m, at)) None) ≡ first_place None b at
    on true = refl
    on false = refl
placed_more (p ∷ ps) m at n = on (placed_more ps m at n) (bytes_eq p.0 n)
  where
    on : place_among (ps ++ (m, at) ∷ []) n ≡ first_place (place_among ps n) (bytes_eq m n) at → (b : Bool)
        → option_map at_of (cond b (Some p) (first_that (λ (q : Text × ℕ). bytes_eq q.0 n) (ps ++ (m, at) ∷ [])))
        ≡ first_place (option_map at_of (cond b (Some p) (first_that (λ (q : Text × ℕ). bytes_eq q.0 n) ps))) (bytes_eq m n) at
    on rest true = refl
    on rest false = rest

module _ {X : Type 0} (name : X → Text) (passes : Text → X → Bool) (named : (n : Text) (x : X) → passes n x ≡ true → name x ≡ n) where
  name_there : (xs : List X) (n : Text) (at : ℕ) → first_at (passes n) xs ≡ Some at → name_at name xs at ≡ n
  name_there [] n at e = cc
  name_there (x ∷ xs) n at e = on (λ k. name_there xs n k) (passes n x) refl e
    where
      on : ((k : ℕ) → first_at (passes n) xs ≡ Some k → name_at name xs k ≡ n) → (b : Bool) → passes n x ≡ b
          → cond b (Some 0) (option_map suc (first_at (passes n) xs)) ≡ Some at → name_at name (x ∷ xs) at ≡ n
      on rest true here e =
          let first : 0 ≡ at = cc in
          subst (λ k. name_at name (x ∷ xs) k ≡ n) first (named n x here)
      on rest false here e =
          let later = suc_of (first_at (passes n) xs) at e in
          subst (λ k. name_at name (x ∷ xs) k ≡ n) later.2 (rest later.0 later.1)

  module _ (xs : List X) where
    abbrev AreNamed : List (Text × ℕ) → Type 0
    AreNamed ps = (k : ℕ) (d : Text × ℕ) → k < length ps → name_at name xs (get_or ps k d).1 ≡ (get_or ps k d).0

    names_are : (ps : List (Text × ℕ)) → AreNamed ps → map (name_at name xs) (map at_of ps) ≡ map name_of ps
    names_are [] are = refl
    names_are (p ∷ ps) are = (λ i. are zero p (omega arith) i ∷ names_are ps (λ k d lt. are (suc k) d (omega arith)) i)

    place_is : (ps : List (Text × ℕ)) (n : Text) → AreNamed ps → place_of name xs (map at_of ps) n ≡ place_among ps n
    place_is [] n are = refl
    place_is (p ∷ ps) n are =
        ap (λ m. cond (bytes_eq m n) (Some p.1) (place_of name xs (map at_of ps) n)) (are zero p (omega arith))
        ∙ ap (λ r. cond (bytes_eq p.0 n) (Some p.1) r) (place_is ps n (λ k d lt. are (suc k) d (omega arith)))
        ∙ on (bytes_eq p.0 n)
      where
        on : (b : Bool) → cond b (Some p.1) (place_among ps n) ≡ option_map at_of (cond b (Some p) (first_that (λ (q : Text × ℕ). bytes_eq q.0 n) ps))
        on true = refl
        on false = refl

    -- the places that are sorted by names are those of an index
    pub index_of : (given : List (Text × ℕ)) (places : List ℕ) → IsSortedFrom given places → ((n : Text) → place_among given n ≡ first_at (passes n) xs)
        → IsIndexOf name passes xs places
    index_of given places sorted finds =
        let are : AreNamed sorted.pairs = λ k d lt.
        name_there xs (get_or sorted.pairs k d).0 (get_or sorted.pairs k d).1
        (sym (finds (get_or sorted.pairs k d).0) ∙ sym (sorted.finds (get_or sorted.pairs k d).0)
        ∙ ap (option_map at_of) (found_at name_of (get_or sorted.pairs k d).0 sorted.pairs k d lt sorted.in_order (same_order (get_or sorted.pairs k d).0))) in
        record {
          in_order = subst AreInOrder (sym (names_are sorted.pairs are) ∙ ap (map (name_at name xs)) (sym sorted.are)) sorted.in_order;
          finds = λ n. ap (λ ps. place_of name xs ps n) sorted.are ∙ place_is sorted.pairs n are ∙ sorted.finds n ∙ finds n;
        }
