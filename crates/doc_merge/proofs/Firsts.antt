-- What differs from an earlier element, where likeness is an equivalence.
use Rattle.std.proofs.Common.{◌≡◌, Bool, true, false, true≢false, cond, not, ◌||◌, List, [], ◌∷◌, refl, ap, sym, ◌∙◌}
use Rattle.std.specs.List.{filter, list_any}
use Rattle.doc_merge.proofs.Anys.{any-append, or_assoc, or_move, or_true}
use Rattle.doc_merge.specs.Paths.{faulty}

-- all from the first one that differs from the head
abbrev pub rest_from : {A : Type 0} → (A → A → Bool) → A → List A → List A
rest_from r a [] = []
rest_from r a (x ∷ xs) = cond (r a x) (rest_from r a xs) (x ∷ xs)

-- an alike head tells apart what the other tells apart
alike : {A : Type 0} (r : A → A → Bool) → ((x y : A) → r x y ≡ true → r y x ≡ true) → ((x y z : A) → r x y ≡ true → r y z ≡ true → r x z ≡ true)
    → (a x y : A) → r a x ≡ true → r a y ≡ r x y
alike r s t a x y e = on (r a y) (r x y) refl refl where
  on : (b c : Bool) → r a y ≡ b → r x y ≡ c → b ≡ c
  on true true f g = refl
  on false false f g = refl
  on true false f g = sym (t x a y (s a x e) f) ∙ g
  on false true f g = sym f ∙ t a x y e g

rest_alike : {A : Type 0} (r : A → A → Bool) → ((x y : A) → r x y ≡ true → r y x ≡ true) → ((x y z : A) → r x y ≡ true → r y z ≡ true → r x z ≡ true)
    → (a x : A) → r a x ≡ true → (xs : List A) → rest_from r x xs ≡ rest_from r a xs
rest_alike r s t a x e [] = refl
rest_alike r s t a x e (y ∷ ys) = λ k. cond (sym (alike r s t a x y e) k) (rest_alike r s t a x e ys k) (y ∷ ys)

three : (u v w q : Bool) → (v || w) ≡ q → ((u || v) || (u || w)) ≡ (u || q)
three true v w q e = refl
three false v w q e = e

-- a part adds nothing
filter_within : {A : Type 0} (p q : A → Bool) (xs : List A) → (list_any p (filter q xs) || list_any p xs) ≡ list_any p xs
filter_within p q [] = refl
filter_within p q (x ∷ xs) = on (q x) (filter_within p q xs) where
  on : (b : Bool) → (list_any p (filter q xs) || list_any p xs) ≡ list_any p xs → (list_any p (cond b (x ∷ filter q xs) (filter q xs)) || (p x || list_any p xs)) ≡ (p x || list_any p xs)
  on true h = three (p x) (list_any p (filter q xs)) (list_any p xs) (list_any p xs) h
  on false h = or_move (list_any p (filter q xs)) (p x) (list_any p xs) (list_any p xs) h

faulty_within : {A : Type 0} (p : A → Bool) (c : A → A → Bool) (xs : List A) → (list_any p (faulty c xs) || list_any p xs) ≡ list_any p xs
faulty_within p c [] = refl
faulty_within p c (x ∷ xs) =
    ap (λ b. b || (p x || list_any p xs)) (any-append p (filter (c x) xs) (faulty c xs))
    ∙ five (p x) (list_any p (filter (c x) xs)) (list_any p (faulty c xs)) (list_any p xs) (filter_within p (c x) xs) (faulty_within p c xs) where
      five : (u v w s : Bool) → (v || s) ≡ s → (w || s) ≡ s → ((v || w) || (u || s)) ≡ (u || s)
      five u true w s e f = sym (ap (λ b. u || b) (sym e) ∙ or_true u)
      five u false true s e f = sym (ap (λ b. u || b) (sym f) ∙ or_true u)
      five u false false s e f = refl

-- what is filter for the head lies in the rest
filter_in_rest : {A : Type 0} (p : A → Bool) (r : A → A → Bool) (a : A) (xs : List A)
    → (list_any p (filter (λ y. not (r a y)) xs) || list_any p (rest_from r a xs)) ≡ list_any p (rest_from r a xs)
filter_in_rest p r a [] = refl
filter_in_rest p r a (x ∷ xs) = on (r a x) (filter_in_rest p r a xs) where
  on : (b : Bool) → (list_any p (filter (λ y. not (r a y)) xs) || list_any p (rest_from r a xs)) ≡ list_any p (rest_from r a xs)
      → (list_any p (cond (not b) (x ∷ filter (λ y. not (r a y)) xs) (filter (λ y. not (r a y)) xs)) || list_any p (cond b (rest_from r a xs) (x ∷ xs))) ≡ list_any p (cond b (rest_from r a xs) (x ∷ xs))
  on true h = h
  on false h = three (p x) (list_any p (filter (λ y. not (r a y)) xs)) (list_any p xs) (list_any p xs) (filter_within p (λ y. not (r a y)) xs)

-- each element differs from one of two that differ
filter_both : {A : Type 0} (p : A → Bool) (r : A → A → Bool) → ((x y : A) → r x y ≡ true → r y x ≡ true) → ((x y z : A) → r x y ≡ true → r y z ≡ true → r x z ≡ true)
    → (a x : A) → r a x ≡ false → (ys : List A) → (list_any p (filter (λ y. not (r a y)) ys) || list_any p (filter (λ y. not (r x y)) ys)) ≡ list_any p ys
filter_both p r s t a x e [] = refl
filter_both p r s t a x e (y ∷ ys) = on (r a y) (r x y) (filter_both p r s t a x e ys) (λ f g. true≢false (sym (t a y x f (s x y g)) ∙ e)) where
  on : (b c : Bool) → (list_any p (filter (λ z. not (r a z)) ys) || list_any p (filter (λ z. not (r x z)) ys)) ≡ list_any p ys → (b ≡ true → c ≡ true → ⊥)
      → (list_any p (cond (not b) (y ∷ filter (λ z. not (r a z)) ys) (filter (λ z. not (r a z)) ys)) || list_any p (cond (not c) (y ∷ filter (λ z. not (r x z)) ys) (filter (λ z. not (r x z)) ys))) ≡ (p y || list_any p ys)
  on true true i h = absurd (h refl refl)
  on true false i h = or_move (list_any p (filter (λ z. not (r a z)) ys)) (p y) (list_any p (filter (λ z. not (r x z)) ys)) (list_any p ys) i
  on false true i h = or_assoc (p y) (list_any p (filter (λ z. not (r a z)) ys)) (list_any p (filter (λ z. not (r x z)) ys)) ∙ ap (λ b. p y || b) i
  on false false i h = three (p y) (list_any p (filter (λ z. not (r a z)) ys)) (list_any p (filter (λ z. not (r x z)) ys)) (list_any p ys) i

-- those that differ from an earlier one are all from the first that differs from the head
pub faulty_from_first : {A : Type 0} (p : A → Bool) (r : A → A → Bool) → ((x y : A) → r x y ≡ true → r y x ≡ true) → ((x y z : A) → r x y ≡ true → r y z ≡ true → r x z ≡ true)
    → (a : A) (xs : List A) → list_any p (faulty (λ x y. not (r x y)) (a ∷ xs)) ≡ list_any p (rest_from r a xs)
faulty_from_first p r s t a [] = refl
faulty_from_first p r s t a (x ∷ xs) =
    any-append p (filter (λ y. not (r a y)) (x ∷ xs)) (faulty (λ u v. not (r u v)) (x ∷ xs)) ∙ on (faulty_from_first p r s t x xs) (r a x) refl where
      on : list_any p (faulty (λ u v. not (r u v)) (x ∷ xs)) ≡ list_any p (rest_from r x xs) → (b : Bool) → r a x ≡ b → (list_any p (cond (not b) (x ∷ filter (λ y. not (r a y)) xs) (filter (λ y. not (r a y)) xs)) || list_any p (faulty (λ u v. not (r u v)) (x ∷ xs))) ≡ list_any p (cond b (rest_from r a xs) (x ∷ xs))
      on i true e = ap (λ b. list_any p (filter (λ y. not (r a y)) xs) || b) (i ∙ ap (list_any p) (rest_alike r s t a x e xs)) ∙ filter_in_rest p r a xs
      on i false e =
          ap (λ b. (p x || list_any p (filter (λ y. not (r a y)) xs)) || b) (any-append p (filter (λ y. not (r x y)) xs) (faulty (λ u v. not (r u v)) xs))
          ∙ five (p x) (list_any p (filter (λ y. not (r a y)) xs)) (list_any p (filter (λ y. not (r x y)) xs)) (list_any p (faulty (λ u v. not (r u v)) xs)) (list_any p xs)
          (filter_both p r s t a x e xs) (faulty_within p (λ u v. not (r u v)) xs) where
            five : (u v w z q : Bool) → (v || w) ≡ q → (z || q) ≡ q → ((u || v) || (w || z)) ≡ (u || q)
            five true v w z q f g = refl
            five false true w z q f g = f
            five false false true z q f g = f
            five false false false true q f g = g
            five false false false false q f g = f
