-- A stable sort by name gives what insertion in order gives.
use Rattle.std.proofs.Common.{◌≡◌, ℕ, suc, ◌+◌, ◌<◌, Bool, true, false, cond, not, ◌&&◌, List, [], ◌∷◌, length, map, get_or, Ordering, Less, Equal, Greater, nat_cmp, is_eq, bytes_eq, refl, sym, ap, subst, ◌∙◌, arith}
use Rattle.std.proofs.lemmas.Cmp.{tied_itself}
use Rattle.std.proofs.lemmas.List.Sorted.{ranks_by, sorted_far}
use Rattle.std.proofs.lemmas.Map.Text.{is_eq-slice_cmp}
use Rattle.std.proofs.lemmas.Slice.Eq.{bytes_eq-Decides}
use Rattle.std.specs.Cmp.{IsStrictWeakOrder}
use Rattle.std.specs.Cmp.Lexicographic.{slice_cmp, nat_list_cmp_total}
use Rattle.std.specs.List.{AllByRecursion, filter}
use Rattle.std.specs.List.Sorted.{IsStableBy, IsSortedBy, ties}
use Rattle.std.specs.Ordering.{is_lt, match_ordering, ordering_reverse}
use Rattle.plan_ir.specs.OperationText.{by_name, with_member}
use Rattle.plan_text.proofs.Using.{filter_same}
use Rattle.plan_ir.proofs.schema_tables_laws.Counting.{eq_swap}
use Rattle.plan_ir.specs.schema_tables.Types.{Text}

abbrev order : Text → Text → Ordering
order = slice_cmp nat_cmp

same_text : (a b : Text) → order a b ≡ Equal → a ≡ b
same_text a b e = (bytes_eq-Decides a b).0 (sym (is_eq-slice_cmp a b) ∙ ap is_eq e)

itself : (a : Text) → bytes_eq a a ≡ true
itself a = sym (is_eq-slice_cmp a a) ∙ ap is_eq (tied_itself nat_list_cmp_total a)

swapped : {X : Type 0} (x y : X) (F : List X) (a b : Bool) → (a ≡ true → b ≡ true → ⊥)
    → cond b (y ∷ cond a (x ∷ F) F) (cond a (x ∷ F) F) ≡ cond a (x ∷ cond b (y ∷ F) F) (cond b (y ∷ F) F)
swapped x y F true true apart = absurd (apart refl refl)
swapped x y F true false apart = refl
swapped x y F false b apart = refl

tie_of : (o p : Ordering) → p ≡ ordering_reverse o → (not (is_lt o) && not (is_lt p)) ≡ is_eq o
tie_of Less p e = refl
tie_of Equal p e = ap (λ x. not (is_lt x)) e
tie_of Greater p e = ap (λ x. not (is_lt x)) e

neither : (o p : Ordering) → p ≡ ordering_reverse o → is_lt o ≡ false → is_lt p ≡ false → o ≡ Equal
neither Less p e a b = cc
neither Equal p e a b = refl
neither Greater p e a b = let c : is_lt p ≡ true = ap is_lt e in cc

module _ {X V : Type 0} (h : X → Text × V) where
  abbrev name : X → Text
  name x = (h x).0

  abbrev under : X → X → Bool
  under x y = is_lt (order (name x) (name y))

  abbrev is_at : Text → X → Bool
  is_at n x = bytes_eq (name x) n

  weak : IsStrictWeakOrder under
  weak = ranks_by nat_list_cmp_total name

  -- ---- insertion

  abbrev put : X → List X → List X
  put x [] = x ∷ []
  put x (y ∷ ys) = match_ordering (order (name x) (name y)) (x ∷ y ∷ ys) (x ∷ y ∷ ys) (y ∷ put x ys)

  abbrev insertion : List X → List X
  insertion [] = []
  insertion (x ∷ xs) = put x (insertion xs)

  map-put : (x : X) (ys : List X) → map h (put x ys) ≡ with_member (h x) (map h ys)
  map-put x [] = refl
  map-put x (y ∷ ys) = on (map-put x ys) (order (name x) (name y))
    where
      on : map h (put x ys) ≡ with_member (h x) (map h ys) → (o : Ordering)
          → map h (match_ordering o (x ∷ y ∷ ys) (x ∷ y ∷ ys) (y ∷ put x ys))
          ≡ match_ordering o (h x ∷ h y ∷ map h ys) (h x ∷ h y ∷ map h ys) (h y ∷ with_member (h x) (map h ys))
      on rest Less = refl
      on rest Equal = refl
      on rest Greater = ap (λ zs. h y ∷ zs) rest

  map-insertion : (xs : List X) → map h (insertion xs) ≡ by_name (map h xs)
  map-insertion [] = refl
  map-insertion (x ∷ xs) = map-put x (insertion xs) ∙ ap (with_member (h x)) (map-insertion xs)

  -- ---- those of one name stay in order

  not_both : (n : Text) (x y : X) → order (name x) (name y) ≡ Greater → is_at n x ≡ true → is_at n y ≡ true → ⊥
  not_both n x y e a b =
      let p : name x ≡ n = (bytes_eq-Decides (name x) n).0 a in
      let q : name y ≡ n = (bytes_eq-Decides (name y) n).0 b in
      let s : order (name x) (name y) ≡ Equal = ap (λ m. order m (name y)) p ∙ ap (λ m. order n m) q ∙ tied_itself nat_list_cmp_total n in
      cc

  filter-put : (n : Text) (x : X) (ys : List X) → filter (is_at n) (put x ys) ≡ filter (is_at n) (x ∷ ys)
  filter-put n x [] = refl
  filter-put n x (y ∷ ys) = on (filter-put n x ys) (order (name x) (name y)) refl
    where
      on : filter (is_at n) (put x ys) ≡ filter (is_at n) (x ∷ ys) → (o : Ordering) → order (name x) (name y) ≡ o
          → filter (is_at n) (match_ordering o (x ∷ y ∷ ys) (x ∷ y ∷ ys) (y ∷ put x ys)) ≡ filter (is_at n) (x ∷ y ∷ ys)
      on rest Less e = refl
      on rest Equal e = refl
      on rest Greater e =
          ap (λ zs. cond (is_at n y) (y ∷ zs) zs) rest
          ∙ swapped x y (filter (is_at n) ys) (is_at n x) (is_at n y) (not_both n x y e)

  filter-insertion : (n : Text) (xs : List X) → filter (is_at n) (insertion xs) ≡ filter (is_at n) xs
  filter-insertion n [] = refl
  filter-insertion n (x ∷ xs) = filter-put n x (insertion xs) ∙ ap (λ zs. cond (is_at n x) (x ∷ zs) zs) (filter-insertion n xs)

  -- ---- lists that ascend

  abbrev Up : List X → Type 0
  Up [] = Unit {0}
  Up (x ∷ xs) = AllByRecursion (λ y. under y x ≡ false) xs × Up xs

  all-put : (P : X → Type 0) (x : X) (ys : List X) → P x → AllByRecursion P ys → AllByRecursion P (put x ys)
  all-put P x [] px all = (px, tt)
  all-put P x (y ∷ ys) px all = on (all-put P x ys px all.1) (order (name x) (name y))
    where
      on : AllByRecursion P (put x ys) → (o : Ordering) → AllByRecursion P (match_ordering o (x ∷ y ∷ ys) (x ∷ y ∷ ys) (y ∷ put x ys))
      on rest Less = (px, all)
      on rest Equal = (px, all)
      on rest Greater = (all.0, rest)

  all_above : (x y : X) (ws : List X) → under y x ≡ false → AllByRecursion (λ w. under w y ≡ false) ws → AllByRecursion (λ w. under w x ≡ false) ws
  all_above x y [] e all = tt
  all_above x y (w ∷ ws) e all = (weak.chain w y x all.0 e, all_above x y ws e all.1)

  back : (x y : X) (o : Ordering) → order (name x) (name y) ≡ o → is_lt (ordering_reverse o) ≡ false → under y x ≡ false
  back x y o e f = ap is_lt (nat_list_cmp_total.antisymm (name y) (name x) ∙ ap ordering_reverse e) ∙ f

  up-put : (x : X) (ys : List X) → Up ys → Up (put x ys)
  up-put x [] up = (tt, tt)
  up-put x (y ∷ ys) up = on (up-put x ys up.1) (order (name x) (name y)) refl
    where
      on : Up (put x ys) → (o : Ordering) → order (name x) (name y) ≡ o → Up (match_ordering o (x ∷ y ∷ ys) (x ∷ y ∷ ys) (y ∷ put x ys))
      on rest Less e = let b : under y x ≡ false = back x y Less e refl in ((b, all_above x y ys b up.0), up)
      on rest Equal e = let b : under y x ≡ false = back x y Equal e refl in ((b, all_above x y ys b up.0), up)
      on rest Greater e = (all-put (λ w. under w y ≡ false) x ys (ap is_lt e) up.0, rest)

  up-insertion : (xs : List X) → Up (insertion xs)
  up-insertion [] = tt
  up-insertion (x ∷ xs) = up-put x (insertion xs) (up-insertion xs)

  each_above : (z : X) (zs : List X) → ((j : ℕ) (d : X) → j < length zs → under (get_or zs j d) z ≡ false) → AllByRecursion (λ w. under w z ≡ false) zs
  each_above z [] f = tt
  each_above z (w ∷ ws) f = (f 0 w (omega arith), each_above z ws (λ j d lt. f (suc j) d (omega arith)))

  up-sorted : (zs : List X) → IsSortedBy under zs → Up zs
  up-sorted [] sorted = tt
  up-sorted (z ∷ zs) sorted = (
    each_above z zs (λ j d lt. sorted_far under weak (z ∷ zs) sorted 0 (suc j) d (omega arith) (omega arith)),
    up-sorted zs (λ k d low lt.
        let e : suc k + 1 ≡ suc (k + 1) = omega arith in
        subst (λ m. under (get_or (z ∷ zs) m d) (get_or zs k d) ≡ false) e (sorted (suc k) d (omega arith) (omega arith))),
  )

  -- ---- lists that ascend and have the same elements of each name, in order, are equal

  behind_first : (n : Text) (x : X) (xs : List X) (w : X) (ws : List X) → AllByRecursion (λ y. under y x ≡ false) xs
      → filter (is_at n) xs ≡ w ∷ ws → is_lt (order n (name x)) ≡ false
  behind_first n x [] w ws all e = cc
  behind_first n x (y ∷ ys) w ws all e = on (behind_first n x ys w ws all.1) (is_at n y) refl e
    where
      on : (filter (is_at n) ys ≡ w ∷ ws → is_lt (order n (name x)) ≡ false) → (b : Bool) → is_at n y ≡ b
          → cond b (y ∷ filter (is_at n) ys) (filter (is_at n) ys) ≡ w ∷ ws → is_lt (order n (name x)) ≡ false
      on rest true here e = subst (λ m. is_lt (order m (name x)) ≡ false) ((bytes_eq-Decides (name y) n).0 here) all.0
      on rest false here e = rest e

  not_below : (n : Text) (x : X) (xs : List X) (w : X) (ws : List X) → Up (x ∷ xs) → filter (is_at n) (x ∷ xs) ≡ w ∷ ws → is_lt (order n (name x)) ≡ false
  not_below n x xs w ws up e = on (is_at n x) refl e
    where
      on : (b : Bool) → is_at n x ≡ b → cond b (x ∷ filter (is_at n) xs) (filter (is_at n) xs) ≡ w ∷ ws → is_lt (order n (name x)) ≡ false
      on true here e =
          subst (λ m. is_lt (order m (name x)) ≡ false) ((bytes_eq-Decides (name x) n).0 here)
          (ap is_lt (tied_itself nat_list_cmp_total (name x)))
      on false here e = behind_first n x xs w ws up.0 e

  own : (x : X) (xs : List X) → filter (is_at (name x)) (x ∷ xs) ≡ x ∷ filter (is_at (name x)) xs
  own x xs = ap (λ b. cond b (x ∷ filter (is_at (name x)) xs) (filter (is_at (name x)) xs)) (itself (name x))

  abbrev Same : List X → List X → Type 0
  Same ys zs = (n : Text) → filter (is_at n) ys ≡ filter (is_at n) zs

  same_name : (y : X) (ys : List X) (z : X) (zs : List X) → Up (y ∷ ys) → Up (z ∷ zs) → Same (y ∷ ys) (z ∷ zs) → name y ≡ name z
  same_name y ys z zs up up' same =
      same_text (name y) (name z)
      (neither (order (name y) (name z)) (order (name z) (name y)) (nat_list_cmp_total.antisymm (name z) (name y))
      (not_below (name y) z zs y (filter (is_at (name y)) ys) up' (sym (same (name y)) ∙ own y ys))
      (not_below (name z) y ys z (filter (is_at (name z)) zs) up (same (name z) ∙ own z zs)))

  same_head : (y : X) (ys : List X) (z : X) (zs : List X) → name y ≡ name z → Same (y ∷ ys) (z ∷ zs) → y ≡ z
  same_head y ys z zs e same =
      let there : filter (is_at (name y)) (z ∷ zs) ≡ z ∷ filter (is_at (name y)) zs =
      subst (λ n. filter (is_at n) (z ∷ zs) ≡ z ∷ filter (is_at n) zs) (sym e) (own z zs) in
      let both : y ∷ filter (is_at (name y)) ys ≡ z ∷ filter (is_at (name y)) zs = sym (own y ys) ∙ same (name y) ∙ there in
      cc

  same_tail : (y : X) (A B : List X) (b : Bool) → cond b (y ∷ A) A ≡ cond b (y ∷ B) B → A ≡ B
  same_tail y A B true e = cc
  same_tail y A B false e = e

  unique : (ys zs : List X) → Up ys → Up zs → Same ys zs → ys ≡ zs
  unique [] [] up up' same = refl
  unique [] (z ∷ zs) up up' same = let e : [] ≡ z ∷ filter (is_at (name z)) zs = same (name z) ∙ own z zs in cc
  unique (y ∷ ys) [] up up' same = let e : y ∷ filter (is_at (name y)) ys ≡ [] = sym (own y ys) ∙ same (name y) in cc
  unique (y ∷ ys) (z ∷ zs) up up' same =
      let e : y ≡ z = same_head y ys z zs (same_name y ys z zs up up' same) same in
      let rest : ys ≡ zs = unique ys zs up.1 up'.1
      (λ n. same_tail y (filter (is_at n) ys) (filter (is_at n) zs) (is_at n y) (same n ∙ ap (λ x. filter (is_at n) (x ∷ zs)) (sym e))) in
      λ i. e i ∷ rest i

  -- ---- the sort

  tied : (x y : X) (n : Text) → name x ≡ n → ties under x y ≡ is_at n y
  tied x y n e =
      tie_of (order (name x) (name y)) (order (name y) (name x)) (nat_list_cmp_total.antisymm (name y) (name x))
      ∙ is_eq-slice_cmp (name x) (name y) ∙ ap (λ m. bytes_eq m (name y)) e ∙ eq_swap n (name y)

  named : (n : Text) (zs : List X) (w : X) (ws : List X) → filter (is_at n) zs ≡ w ∷ ws → name w ≡ n
  named n [] w ws e = cc
  named n (z ∷ zs) w ws e = on (named n zs w ws) (is_at n z) refl e
    where
      on : (filter (is_at n) zs ≡ w ∷ ws → name w ≡ n) → (b : Bool) → is_at n z ≡ b
          → cond b (z ∷ filter (is_at n) zs) (filter (is_at n) zs) ≡ w ∷ ws → name w ≡ n
      on rest true here e = let head : z ≡ w = cc in ap name (sym head) ∙ (bytes_eq-Decides (name z) n).0 here
      on rest false here e = rest e

  alike_at : (xs zs : List X) (n : Text) (x : X) → IsStableBy under xs zs → name x ≡ n → filter (is_at n) zs ≡ filter (is_at n) xs
  alike_at xs zs n x stable e =
      filter_same (is_at n) (ties under x) zs (λ y. sym (tied x y n e)) ∙ stable x ∙ filter_same (ties under x) (is_at n) xs (λ y. tied x y n e)

  alike : (xs zs : List X) → IsStableBy under xs zs → Same zs xs
  alike xs zs stable n = on (filter (is_at n) zs) (filter (is_at n) xs) refl refl
    where
      on : (a b : List X) → filter (is_at n) zs ≡ a → filter (is_at n) xs ≡ b → filter (is_at n) zs ≡ filter (is_at n) xs
      on (w ∷ ws) b there here = alike_at xs zs n w stable (named n zs w ws there)
      on [] (w ∷ ws) there here = alike_at xs zs n w stable (named n xs w ws here)
      on [] [] there here = there ∙ sym here

  pub sorted_by_name : (xs zs : List X) → IsStableBy under xs zs → IsSortedBy under zs → map h zs ≡ by_name (map h xs)
  sorted_by_name xs zs stable up =
      ap (map h) (unique zs (insertion xs) (up-sorted zs up) (up-insertion xs) (λ n. alike xs zs stable n ∙ sym (filter-insertion n xs)))
      ∙ map-insertion xs
