-- Pairs in the order of their keys, around one of them: what `find`, `put` and `where_key` do on either side.
use Rattle.std.proofs.Common.{◌≡◌, ◌≤◌, Bool, true, false, cond, T, List, [], ◌∷◌, ◌++◌, length, Some, None, refl, ap, ◌∙◌, arith}
use Rattle.std.specs.Prelude.{not, ◌&&◌}
use Rattle.std.specs.declared.cmp.Ordering.{Ordering}
use Rattle.std.specs.declared.cmp.Ordering.TheVariants.{Less, Equal, Greater}
use Rattle.std.specs.Ordering.{is_lt, is_eq, ordering_reverse, eq_by_cmp}
use Rattle.std.specs.Cmp.{IsTotalOrder, alike_right}
use Rattle.std.specs.FinMap.Entries.{by_order, find, put, where_key, below_all, is_sorted}
use Rattle.store_tree.specs.Place.{Passes, Precedes}

both : (a b : Bool) → T a → T b → T (a && b)
both true b p q = q
both false b p q = p

pub first : (a b : Bool) → T (a && b) → T a
first true b p = tt
first false b p = p

pub second : (a b : Bool) → T (a && b) → T b
second true b p = p
second false b p = absurd p

pub less : (o : Ordering) → T (is_lt o) → o ≡ Less
less Less p = refl
less Equal p = absurd p
less Greater p = absurd p

by_order-append : {A : Type 0} (o : Ordering) (a b c m : List A) → by_order o (a ++ m) (b ++ m) (c ++ m) ≡ by_order o a b c ++ m
by_order-append Less a b c m = refl
by_order-append Equal a b c m = refl
by_order-append Greater a b c m = refl

-- a key below each key of the list is not found in it
pub find-below : {K X : Type 0} (R : K → K → Ordering) (k : K) (r : List (K × X)) → T (below_all R k r) → find R k r ≡ None
find-below R k [] h = refl
find-below R k (x ∷ r) h = ap (λ t. cond (is_eq t) (Some x.1) (find R k r)) (less _ (first _ _ h)) ∙ find-below R k r (second _ _ h)

-- what is left is not longer
pub length-where_key : {K X : Type 0} (R : K → K → Ordering) (p : K → Bool) (r : List (K × X)) → length (where_key R p r) ≤ length r
length-where_key R p [] = omega arith
length-where_key R p (x ∷ r) =
    let rest = length-where_key R p r in
    elim (p x.0) as (λ b. length (cond b (x ∷ where_key R p r) (where_key R p r)) ≤ length (x ∷ r)) [
      | true ↦ omega (arith, rest)
      | false ↦ omega (arith, rest)
    ]

abbrev others : {K : Type 0} → (K → K → Ordering) → K → K → Bool
others R k x = not (eq_by_cmp R k x)

module _ {K X : Type 0} {R : K → K → Ordering} (o : IsTotalOrder R) where
  above_middle : (k : K) (l : List (K × X)) (e : K × X) (r : List (K × X)) → T (below_all R k (l ++ e ∷ r)) → R k e.0 ≡ Less
  above_middle k [] e r h = less _ (first _ _ h)
  above_middle k (x ∷ l) e r h = above_middle k l e r (second _ _ h)

  below_front : (k : K) (l m : List (K × X)) → T (below_all R k (l ++ m)) → T (below_all R k l)
  below_front k [] m h = tt
  below_front k (x ∷ l) m h = both _ _ (first _ _ h) (below_front k l m (second _ _ h))

  pub sorted_left : (l m : List (K × X)) → T (is_sorted R (l ++ m)) → T (is_sorted R l)
  sorted_left [] m h = tt
  sorted_left (x ∷ l) m h = both _ _ (below_front x.0 l m (first _ _ h)) (sorted_left l m (second _ _ h))

  pub sorted_right : (l : List (K × X)) (e : K × X) (r : List (K × X)) → T (is_sorted R (l ++ e ∷ r)) → T (is_sorted R r)
  sorted_right [] e r h = second _ _ h
  sorted_right (x ∷ l) e r h = sorted_right l e r (second _ _ h)

  precedes_tail : (k e : K) (r : List (K × X)) → R k e ≡ Less → T (below_all R e r) → Precedes R k r
  precedes_tail k e [] p h = tt
  precedes_tail k e (x ∷ r) p h = (o.trans k e x.0 p (less _ (first _ _ h)), precedes_tail k e r p (second _ _ h))

  tied_precedes : (k e : K) (r : List (K × X)) → R k e ≡ Equal → T (below_all R e r) → Precedes R k r
  tied_precedes k e [] p h = tt
  tied_precedes k e (x ∷ r) p h = (o.congr k e x.0 p ∙ less _ (first _ _ h), tied_precedes k e r p (second _ _ h))

  -- a key below the middle one, or the middle one itself, is below those after it
  pub precedes_right : (k : K) (l : List (K × X)) (e : K × X) (r : List (K × X)) → R k e.0 ≡ Less → T (is_sorted R (l ++ e ∷ r)) → Precedes R k r
  precedes_right k [] e r p h = precedes_tail k e.0 r p (first _ _ h)
  precedes_right k (x ∷ l) e r p h = precedes_right k l e r p (second _ _ h)

  pub precedes_after : (k : K) (l : List (K × X)) (e : K × X) (r : List (K × X)) → R k e.0 ≡ Equal → T (is_sorted R (l ++ e ∷ r)) → Precedes R k r
  precedes_after k [] e r p h = tied_precedes k e.0 r p (first _ _ h)
  precedes_after k (x ∷ l) e r p h = precedes_after k l e r p (second _ _ h)

  -- a key above the middle one, or the middle one itself, is above those before it
  pub passes_left : (k : K) (l : List (K × X)) (e : K × X) (r : List (K × X)) → R k e.0 ≡ Greater → T (is_sorted R (l ++ e ∷ r)) → Passes R k l
  passes_left k [] e r p h = tt
  passes_left k (x ∷ l) e r p h =
      let q : R e.0 k ≡ Less = o.antisymm e.0 k ∙ ap ordering_reverse p in
      (o.antisymm k x.0 ∙ ap ordering_reverse (o.trans x.0 e.0 k (above_middle x.0 l e r (first _ _ h)) q), passes_left k l e r p (second _ _ h))

  pub passes_before : (k : K) (l : List (K × X)) (e : K × X) (r : List (K × X)) → R k e.0 ≡ Equal → T (is_sorted R (l ++ e ∷ r)) → Passes R k l
  passes_before k [] e r p h = tt
  passes_before k (x ∷ l) e r p h =
      (o.antisymm k x.0 ∙ ap ordering_reverse (alike_right o k e.0 x.0 p ∙ above_middle x.0 l e r (first _ _ h)), passes_before k l e r p (second _ _ h))

  pub find-precedes : (k : K) (r : List (K × X)) → Precedes R k r → find R k r ≡ None
  find-precedes k [] p = refl
  find-precedes k (x ∷ r) p = ap (λ t. cond (is_eq t) (Some x.1) (find R k r)) p.0 ∙ find-precedes k r p.1

  pub find-passes : (k : K) (l m : List (K × X)) → Passes R k l → find R k (l ++ m) ≡ find R k m
  find-passes k [] m p = refl
  find-passes k (x ∷ l) m p = ap (λ t. cond (is_eq t) (Some x.1) (find R k (l ++ m))) p.0 ∙ find-passes k l m p.1

  pub put-passes : (k : K) (v : X) (l m : List (K × X)) → Passes R k l → put R k v (l ++ m) ≡ l ++ put R k v m
  put-passes k v [] m p = refl
  put-passes k v (x ∷ l) m p =
      ap (λ t. by_order t ((k, v) ∷ x ∷ (l ++ m)) ((x.0, v) ∷ (l ++ m)) (x ∷ put R k v (l ++ m))) p.0 ∙ ap (λ t. x ∷ t) (put-passes k v l m p.1)

  pub without-precedes : (k : K) (r : List (K × X)) → Precedes R k r → where_key R (others R k) r ≡ r
  without-precedes k [] p = refl
  without-precedes k (x ∷ r) p =
      ap (λ t. cond (not (is_eq t)) (x ∷ where_key R (others R k) r) (where_key R (others R k) r)) p.0 ∙ ap (λ t. x ∷ t) (without-precedes k r p.1)

  pub without-passes : (k : K) (l m : List (K × X)) → Passes R k l → where_key R (others R k) (l ++ m) ≡ l ++ where_key R (others R k) m
  without-passes k [] m p = refl
  without-passes k (x ∷ l) m p =
      ap (λ t. cond (not (is_eq t)) (x ∷ where_key R (others R k) (l ++ m)) (where_key R (others R k) (l ++ m))) p.0 ∙ ap (λ t. x ∷ t) (without-passes k l m p.1)

  -- on the left
  pub find-left : (k : K) (l : List (K × X)) (e : K × X) (r : List (K × X)) → R k e.0 ≡ Less → T (is_sorted R (l ++ e ∷ r)) → find R k (l ++ e ∷ r) ≡ find R k l
  find-left k [] e r p h = find-precedes k (e ∷ r) (p, precedes_right k [] e r p h)
  find-left k (x ∷ l) e r p h = ap (cond (eq_by_cmp R k x.0) (Some x.1)) (find-left k l e r p (second _ _ h))

  pub put-left : (k : K) (v : X) (l : List (K × X)) (e : K × X) (r : List (K × X)) → R k e.0 ≡ Less → put R k v (l ++ e ∷ r) ≡ put R k v l ++ e ∷ r
  put-left k v [] e r p = ap (λ t. by_order t ((k, v) ∷ e ∷ r) ((e.0, v) ∷ r) (e ∷ put R k v r)) p
  put-left k v (x ∷ l) e r p =
      ap (λ t. by_order (R k x.0) ((k, v) ∷ x ∷ (l ++ e ∷ r)) ((x.0, v) ∷ (l ++ e ∷ r)) (x ∷ t)) (put-left k v l e r p)
      ∙ by_order-append (R k x.0) ((k, v) ∷ x ∷ l) ((x.0, v) ∷ l) (x ∷ put R k v l) (e ∷ r)

  pub without-left : (k : K) (l : List (K × X)) (e : K × X) (r : List (K × X)) → R k e.0 ≡ Less → T (is_sorted R (l ++ e ∷ r)) → where_key R (others R k) (l ++ e ∷ r) ≡ where_key R (others R k) l ++ e ∷ r
  without-left k [] e r p h = without-precedes k (e ∷ r) (p, precedes_right k [] e r p h)
  without-left k (x ∷ l) e r p h =
      elim (others R k x.0) as (λ b. cond b (x ∷ where_key R (others R k) (l ++ e ∷ r)) (where_key R (others R k) (l ++ e ∷ r)) ≡ cond b (x ∷ where_key R (others R k) l) (where_key R (others R k) l) ++ e ∷ r) [
        | true ↦ ap (λ t. x ∷ t) (without-left k l e r p (second _ _ h))
        | false ↦ without-left k l e r p (second _ _ h)
      ]

  -- on the right
  pub find-right : (k : K) (l : List (K × X)) (e : K × X) (r : List (K × X)) → R k e.0 ≡ Greater → T (is_sorted R (l ++ e ∷ r)) → find R k (l ++ e ∷ r) ≡ find R k r
  find-right k l e r p h = find-passes k l (e ∷ r) (passes_left k l e r p h) ∙ ap (λ t. cond (is_eq t) (Some e.1) (find R k r)) p

  pub put-right : (k : K) (v : X) (l : List (K × X)) (e : K × X) (r : List (K × X)) → R k e.0 ≡ Greater → T (is_sorted R (l ++ e ∷ r)) → put R k v (l ++ e ∷ r) ≡ l ++ e ∷ put R k v r
  put-right k v l e r p h =
      put-passes k v l (e ∷ r) (passes_left k l e r p h) ∙ ap (λ t. l ++ by_order t ((k, v) ∷ e ∷ r) ((e.0, v) ∷ r) (e ∷ put R k v r)) p

  pub without-right : (k : K) (l : List (K × X)) (e : K × X) (r : List (K × X)) → R k e.0 ≡ Greater → T (is_sorted R (l ++ e ∷ r)) → where_key R (others R k) (l ++ e ∷ r) ≡ l ++ e ∷ where_key R (others R k) r
  without-right k l e r p h =
      without-passes k l (e ∷ r) (passes_left k l e r p h) ∙ ap (λ t. l ++ cond (not (is_eq t)) (e ∷ where_key R (others R k) r) (where_key R (others R k) r)) p

  -- in the middle
  pub find-middle : (k : K) (l : List (K × X)) (e : K × X) (r : List (K × X)) → R k e.0 ≡ Equal → T (is_sorted R (l ++ e ∷ r)) → find R k (l ++ e ∷ r) ≡ Some e.1
  find-middle k l e r p h = find-passes k l (e ∷ r) (passes_before k l e r p h) ∙ ap (λ t. cond (is_eq t) (Some e.1) (find R k r)) p

  pub put-middle : (k : K) (v : X) (l : List (K × X)) (e : K × X) (r : List (K × X)) → R k e.0 ≡ Equal → T (is_sorted R (l ++ e ∷ r)) → put R k v (l ++ e ∷ r) ≡ l ++ (e.0, v) ∷ r
  put-middle k v l e r p h =
      put-passes k v l (e ∷ r) (passes_before k l e r p h) ∙ ap (λ t. l ++ by_order t ((k, v) ∷ e ∷ r) ((e.0, v) ∷ r) (e ∷ put R k v r)) p

  pub without-middle : (k : K) (l : List (K × X)) (e : K × X) (r : List (K × X)) → R k e.0 ≡ Equal → T (is_sorted R (l ++ e ∷ r)) → where_key R (others R k) (l ++ e ∷ r) ≡ l ++ r
  without-middle k l e r p h =
      without-passes k l (e ∷ r) (passes_before k l e r p h)
      ∙ ap (λ t. l ++ cond (not (is_eq t)) (e ∷ where_key R (others R k) r) (where_key R (others R k) r)) p
      ∙ ap (λ t. l ++ t) (without-precedes k r (precedes_after k l e r p h))
