-- What a stable sort and then a `dedup` leave: the members in order, the first of those that tie.
use Rattle.std.proofs.Common.{◌≡◌, Bool, true, false, true≢false, cond, not, ◌&&◌, List, [], ◌∷◌, map, Option, Some, None, Ordering, Less, Equal, Greater, is_eq, refl, sym, ap, ◌∙◌, subst}
use Rattle.std.proofs.lemmas.Cmp.{tied_itself}
use Rattle.std.proofs.lemmas.List.Kept.{IsStrictlySortedBy-dedup}
use Rattle.std.specs.Cmp.{IsTotalOrder}
use Rattle.std.specs.List.{AllByRecursion, filter, dedup, dedup_from}
use Rattle.std.specs.List.Sorted.{IsSorted, IsStable, IsStrictlySortedBy, ties}
use Rattle.std.specs.Ordering.{is_lt, match_ordering, ordering_reverse}
use Rattle.store_model.specs.Verdicts.{where_so, with_one, in_order}

abbrev pub first_so : {A : Type 0} → (A → Bool) → List A → Option A
first_so test [] = None
first_so test (x ∷ xs) = cond (test x) (Some x) (first_so test xs)

abbrev head_of : {A : Type 0} → List A → Option A
head_of [] = None
head_of (x ∷ xs) = Some x

first_in : {A : Type 0} (test : A → Bool) (xs : List A) → first_so test xs ≡ head_of (filter test xs)
first_in test [] = refl
first_in test (x ∷ xs) = on (first_in test xs) (test x)
  where
    on : first_so test xs ≡ head_of (filter test xs) → (b : Bool) → cond b (Some x) (first_so test xs) ≡ head_of (cond b (x ∷ filter test xs) (filter test xs))
    on rest true = refl
    on rest false = rest

filter_alike : {A : Type 0} (p q : A → Bool) (xs : List A) → ((x : A) → p x ≡ q x) → filter p xs ≡ filter q xs
filter_alike p q [] same = refl
filter_alike p q (x ∷ xs) same = (λ i. cond (same x i) (x ∷ filter_alike p q xs same i) (filter_alike p q xs same i))

pub where_is_filter : {A : Type 0} (test : A → Bool) (xs : List A) → where_so test xs ≡ filter test xs
where_is_filter test [] = refl
where_is_filter test (x ∷ xs) = ap (λ ys. cond (test x) (x ∷ ys) ys) (where_is_filter test xs)

tie_of : (r s : Ordering) → s ≡ ordering_reverse r → (not (is_lt r) && not (is_lt s)) ≡ is_eq r
tie_of Less s e = refl
tie_of Equal s e = ap (λ x. not (is_lt x)) e
tie_of Greater s e = ap (λ x. not (is_lt x)) e

is_none : {A : Type 0} (a : A) → Some a ≡ None → ⊥
is_none {A} a e = subst IsThere e tt
  where
    IsThere : Option A → Type 0
    IsThere None = ⊥
    IsThere (Some x) = Unit {0}

abbrev the_one : {A : Type 0} (a : A) (o : Option A) → A
the_one a None = a
the_one a (Some b) = b

module _ {A : Type 0} (cmp : A → A → Ordering) (o : IsTotalOrder cmp) where
  abbrev pub tied : A → A → Bool
  tied x y = is_eq (cmp x y)

  abbrev lt : A → A → Bool
  lt x y = is_lt (cmp x y)

  is_tie : (r : Ordering) → is_eq r ≡ true → r ≡ Equal
  is_tie Less e = absurd (true≢false (sym e))
  is_tie Equal e = refl
  is_tie Greater e = absurd (true≢false (sym e))

  -- those that tie are tied with the same ones
  tied_as : (x y z : A) → tied x y ≡ true → tied z x ≡ tied z y
  tied_as x y z e =
      ap is_eq (o.antisymm z x ∙ ap ordering_reverse (o.congr x y z (is_tie (cmp x y) e)) ∙ sym (o.antisymm z y))

  tied_back : (x y : A) → tied x y ≡ true → tied y x ≡ true
  tied_back x y e = tied_as x y y e ∙ ap is_eq (tied_itself o y)

  -- ---- the first that ties, after each step

  one_first : (z a : A) (xs : List A) → first_so (tied z) (with_one cmp a xs) ≡ cond (tied z a) (Some a) (first_so (tied z) xs)
  one_first z a [] = refl
  one_first z a (b ∷ bs) = at (cmp a b) refl (one_first z a bs)
    where
      over : (t u : Bool) → (t ≡ true → u ≡ true → ⊥) → cond u (Some b) (cond t (Some a) (first_so (tied z) bs)) ≡ cond t (Some a) (cond u (Some b) (first_so (tied z) bs))
      over true true not_both = absurd (not_both refl refl)
      over true false not_both = refl
      over false u not_both = refl

      same : cmp a b ≡ Equal → (t : Bool) → tied z a ≡ t → cond t (Some a) (first_so (tied z) bs) ≡ cond t (Some a) (cond (tied z b) (Some b) (first_so (tied z) bs))
      same e true f = refl
      same e false f = sym (ap (λ u. cond u (Some b) (first_so (tied z) bs)) (sym (tied_as a b z (ap is_eq e)) ∙ f))

      at : (r : Ordering) → cmp a b ≡ r → first_so (tied z) (with_one cmp a bs) ≡ cond (tied z a) (Some a) (first_so (tied z) bs)
          → first_so (tied z) (match_ordering r (a ∷ b ∷ bs) (a ∷ bs) (b ∷ with_one cmp a bs)) ≡ cond (tied z a) (Some a) (first_so (tied z) (b ∷ bs))
      at Less e rest = refl
      at Equal e rest = same e (tied z a) refl
      at Greater e rest =
          ap (λ r. cond (tied z b) (Some b) r) rest
          ∙ over (tied z a) (tied z b) (λ f g. true≢false (sym g ∙ ap is_eq (o.congr z a b (is_tie (cmp z a) f)) ∙ ap is_eq e))

  pub first_of_order : (z : A) (xs : List A) → first_so (tied z) (in_order cmp xs) ≡ first_so (tied z) xs
  first_of_order z [] = refl
  first_of_order z (x ∷ xs) = one_first z x (in_order cmp xs) ∙ ap (λ r. cond (tied z x) (Some x) r) (first_of_order z xs)

  -- ---- the order is strict

  one_after : (b a : A) (xs : List A) → cmp b a ≡ Less → AllByRecursion (λ y. cmp b y ≡ Less) xs → AllByRecursion (λ y. cmp b y ≡ Less) (with_one cmp a xs)
  one_after b a [] e all = (e, tt)
  one_after b a (x ∷ xs) e all = at (cmp a x) (one_after b a xs e all.1)
    where
      at : (r : Ordering) → AllByRecursion (λ y. cmp b y ≡ Less) (with_one cmp a xs)
          → AllByRecursion (λ y. cmp b y ≡ Less) (match_ordering r (a ∷ x ∷ xs) (a ∷ xs) (x ∷ with_one cmp a xs))
      at Less rest = (e, all)
      at Equal rest = (e, all.1)
      at Greater rest = (all.0, rest)

  each_after : (a b : A) (xs : List A) → ((y : A) → cmp b y ≡ Less → cmp a y ≡ Less) → AllByRecursion (λ y. cmp b y ≡ Less) xs → AllByRecursion (λ y. cmp a y ≡ Less) xs
  each_after a b [] f all = tt
  each_after a b (x ∷ xs) f all = (f x all.0, each_after a b xs f all.1)

  one_sorted : (a : A) (xs : List A) → IsStrictlySortedBy cmp xs → IsStrictlySortedBy cmp (with_one cmp a xs)
  unfolding IsStrictlySortedBy
  one_sorted a [] up = (tt, tt)
  one_sorted a (b ∷ bs) up = at (cmp a b) refl (one_sorted a bs up.1)
    where
      at : (r : Ordering) → cmp a b ≡ r → IsStrictlySortedBy cmp (with_one cmp a bs) → IsStrictlySortedBy cmp (match_ordering r (a ∷ b ∷ bs) (a ∷ bs) (b ∷ with_one cmp a bs))
      at Less e rest = ((e, each_after a b bs (λ y f. o.trans a b y e f) up.0), up)
      at Equal e rest = (each_after a b bs (λ y f. o.congr a b y e ∙ f) up.0, up.1)
      at Greater e rest = (one_after b a bs (o.antisymm b a ∙ ap ordering_reverse e) up.0, rest)

  pub order_sorted : (xs : List A) → IsStrictlySortedBy cmp (in_order cmp xs)
  unfolding IsStrictlySortedBy
  order_sorted [] = tt
  order_sorted (x ∷ xs) = one_sorted x (in_order cmp xs) (order_sorted xs)

  -- ---- lists in strict order with the same first ones are the same

  none_after : (z x : A) (xs : List A) → tied z x ≡ true → AllByRecursion (λ y. cmp x y ≡ Less) xs → first_so (tied z) xs ≡ None
  none_after z x [] e all = refl
  none_after z x (y ∷ ys) e all =
      ap (λ t. cond t (Some y) (first_so (tied z) ys)) (ap is_eq (o.congr z x y (is_tie (cmp z x) e) ∙ all.0)) ∙ none_after z x ys e all.1

  pub same_firsts : (xs ys : List A) → IsStrictlySortedBy cmp xs → IsStrictlySortedBy cmp ys → ((z : A) → first_so (tied z) xs ≡ first_so (tied z) ys) → xs ≡ ys
  unfolding IsStrictlySortedBy
  same_firsts [] [] up vp same = refl
  same_firsts [] (y ∷ ys) up vp same = absurd (is_none y (sym (ap (λ t. cond t (Some y) (first_so (tied y) ys)) (ap is_eq (tied_itself o y))) ∙ sym (same y)))
  same_firsts (x ∷ xs) [] up vp same = absurd (is_none x (sym (ap (λ t. cond t (Some x) (first_so (tied x) xs)) (ap is_eq (tied_itself o x))) ∙ same x))
  same_firsts (x ∷ xs) (y ∷ ys) up vp same = at (cmp x y) refl (λ rest. same_firsts xs ys up.1 vp.1 rest)
    where
      own : (a : A) (more : List A) → first_so (tied a) (a ∷ more) ≡ Some a
      own a more = ap (λ t. cond t (Some a) (first_so (tied a) more)) (ap is_eq (tied_itself o a))

      beyond : (a b : A) (bs : List A) → cmp a b ≡ Less → AllByRecursion (λ c. cmp b c ≡ Less) bs → first_so (tied a) (b ∷ bs) ≡ None
      beyond a b bs e all = none_after a a (b ∷ bs) (ap is_eq (tied_itself o a)) (e, each_after a b bs (λ c f. o.trans a b c e f) all)

      left : (z : A) → tied x y ≡ true → (t : Bool) → tied z x ≡ t → first_so (tied z) xs ≡ first_so (tied z) ys
      left z e true f = none_after z x xs f up.0 ∙ sym (none_after z y ys (sym (tied_as x y z e) ∙ f) vp.0)
      left z e false f =
          sym (ap (λ t. cond t (Some x) (first_so (tied z) xs)) f) ∙ same z ∙ ap (λ t. cond t (Some y) (first_so (tied z) ys)) (sym (tied_as x y z e) ∙ f)

      at : (r : Ordering) → cmp x y ≡ r → (((z : A) → first_so (tied z) xs ≡ first_so (tied z) ys) → xs ≡ ys) → x ∷ xs ≡ y ∷ ys
      at Less e rest = absurd (is_none x (sym (own x xs) ∙ same x ∙ beyond x y ys e vp.0))
      at Greater e rest = absurd (is_none y (sym (own y ys) ∙ sym (same y) ∙ beyond y x xs (o.antisymm y x ∙ ap ordering_reverse e) up.0))
      at Equal e rest =
          let t : tied x y ≡ true = ap is_eq e in
          let first : x ≡ y = ap (the_one x) (sym (own x xs) ∙ same x ∙ ap (λ u. cond u (Some y) (first_so (tied x) ys)) t) in
          (λ i. first i ∷ rest (λ z. left z t (tied z x) refl) i)

  -- ---- a stable sort, and `dedup`

  tests_alike : (x y : A) → ties lt x y ≡ tied x y
  tests_alike x y = tie_of (cmp x y) (cmp y x) (o.antisymm y x)

  pub kept_by_sort : (xs sorted : List A) → IsStable cmp xs sorted → (z : A) → where_so (tied z) sorted ≡ where_so (tied z) xs
  kept_by_sort xs sorted stable z =
      where_is_filter (tied z) sorted ∙ filter_alike (tied z) (ties lt z) sorted (λ y. sym (tests_alike z y)) ∙ stable z
      ∙ filter_alike (ties lt z) (tied z) xs (tests_alike z) ∙ sym (where_is_filter (tied z) xs)

  first_sorted : (xs sorted : List A) → IsStable cmp xs sorted → (z : A) → first_so (tied z) sorted ≡ first_so (tied z) xs
  first_sorted xs sorted stable z =
      first_in (tied z) sorted
      ∙ ap head_of (sym (where_is_filter (tied z) sorted) ∙ kept_by_sort xs sorted stable z ∙ where_is_filter (tied z) xs)
      ∙ sym (first_in (tied z) xs)

  first_from : (z k : A) (xs : List A) → first_so (tied z) (dedup_from tied k xs) ≡ first_so (tied z) (k ∷ xs)
  first_from z k [] = refl
  first_from z k (x ∷ xs) = at (tied x k) refl (first_from z k xs) (first_from z x xs)
    where
      over : (t : Bool) → tied z k ≡ t → tied x k ≡ true → cond t (Some k) (first_so (tied z) xs) ≡ cond t (Some k) (cond (tied z x) (Some x) (first_so (tied z) xs))
      over true e f = refl
      over false e f = sym (ap (λ u. cond u (Some x) (first_so (tied z) xs)) (tied_as x k z f ∙ e))

      at : (t : Bool) → tied x k ≡ t → first_so (tied z) (dedup_from tied k xs) ≡ first_so (tied z) (k ∷ xs) → first_so (tied z) (dedup_from tied x xs) ≡ first_so (tied z) (x ∷ xs)
          → first_so (tied z) (cond t (dedup_from tied k xs) (k ∷ dedup_from tied x xs)) ≡ first_so (tied z) (k ∷ x ∷ xs)
      at true e left right = left ∙ over (tied z k) refl e
      at false e left right = ap (λ r. cond (tied z k) (Some k) r) right

  first_of_dedup : (z : A) (xs : List A) → first_so (tied z) (dedup tied xs) ≡ first_so (tied z) xs
  first_of_dedup z [] = refl
  first_of_dedup z (x ∷ xs) = first_from z x xs

  pub dedup_rises : (sorted : List A) → IsSorted cmp sorted → IsStrictlySortedBy cmp (dedup tied sorted)
  dedup_rises sorted up = IsStrictlySortedBy-dedup o (λ x y. refl) sorted up

  pub dedup_is_order : (xs sorted : List A) → IsSorted cmp sorted → IsStable cmp xs sorted → dedup tied sorted ≡ in_order cmp xs
  dedup_is_order xs sorted up stable =
      same_firsts (dedup tied sorted) (in_order cmp xs) (dedup_rises sorted up) (order_sorted xs)
      (λ z. first_of_dedup z sorted ∙ first_sorted xs sorted stable z ∙ sym (first_of_order z xs))

-- ---- members that are seen as others

module _ {A B : Type 0} (f : A → B) (cmp : B → B → Ordering) where
  abbrev by : A → A → Ordering
  by x y = cmp (f x) (f y)

  map_match : (r : Ordering) (xs ys zs : List A) → map f (match_ordering r xs ys zs) ≡ match_ordering r (map f xs) (map f ys) (map f zs)
  map_match Less xs ys zs = refl
  map_match Equal xs ys zs = refl
  map_match Greater xs ys zs = refl

  one_map : (a : A) (xs : List A) → map f (with_one by a xs) ≡ with_one cmp (f a) (map f xs)
  one_map a [] = refl
  one_map a (b ∷ bs) =
      map_match (by a b) (a ∷ b ∷ bs) (a ∷ bs) (b ∷ with_one by a bs)
      ∙ ap (λ ys. match_ordering (by a b) (map f (a ∷ b ∷ bs)) (map f (a ∷ bs)) (f b ∷ ys)) (one_map a bs)

  pub order_map : (xs : List A) → map f (in_order by xs) ≡ in_order cmp (map f xs)
  order_map [] = refl
  order_map (x ∷ xs) = one_map x (in_order by xs) ∙ ap (with_one cmp (f x)) (order_map xs)
