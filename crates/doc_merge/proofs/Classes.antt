-- Groups lose no pair: where only elements of one class conflict, a class's faults are the faults of the class.
use Rattle.std.proofs.Common.{◌≡◌, Bool, true, false, cond, List, [], ◌∷◌, ◌++◌, refl, ap, sym, ◌∙◌}
use Rattle.std.specs.List.{filter}
use Rattle.doc_merge.specs.Paths.{faulty}

pub filter-append : {A : Type 0} (q : A → Bool) (xs ys : List A) → filter q (xs ++ ys) ≡ filter q xs ++ filter q ys
filter-append q [] ys = refl
filter-append {A = A} q (x ∷ xs) ys = on (q x) (filter-append q xs ys) where
  on : (b : Bool) → filter q (xs ++ ys) ≡ filter q xs ++ filter q ys → cond b (x ∷ filter q (xs ++ ys)) (filter q (xs ++ ys)) ≡ cond b (x ∷ filter q xs) (filter q xs) ++ filter q ys
  on true h = ap (λ (zs : List A). x ∷ zs) h
  on false h = h

filter_swap : {A : Type 0} (p q : A → Bool) (xs : List A) → filter q (filter p xs) ≡ filter p (filter q xs)
filter_swap p q [] = refl
filter_swap {A = A} p q (x ∷ xs) = on (p x) (q x) refl refl (filter_swap p q xs) where
  on : (b c : Bool) → p x ≡ b → q x ≡ c → filter q (filter p xs) ≡ filter p (filter q xs) → filter q (cond b (x ∷ filter p xs) (filter p xs)) ≡ filter p (cond c (x ∷ filter q xs) (filter q xs))
  on true true e f h = (λ k. cond (f k) (x ∷ filter q (filter p xs)) (filter q (filter p xs))) ∙ ap (λ (zs : List A). x ∷ zs) h ∙ sym (λ k. cond (e k) (x ∷ filter p (filter q xs)) (filter p (filter q xs)))
  on true false e f h = (λ k. cond (f k) (x ∷ filter q (filter p xs)) (filter q (filter p xs))) ∙ h
  on false true e f h = h ∙ sym (λ k. cond (e k) (x ∷ filter p (filter q xs)) (filter p (filter q xs)))
  on false false e f h = h

filter_nothing : {A : Type 0} (p q : A → Bool) → ((y : A) → p y ≡ true → q y ≡ false) → (xs : List A) → filter q (filter p xs) ≡ []
filter_nothing p q h [] = refl
filter_nothing p q h (x ∷ xs) = on (p x) refl (filter_nothing p q h xs) where
  on : (b : Bool) → p x ≡ b → filter q (filter p xs) ≡ [] → filter q (cond b (x ∷ filter p xs) (filter p xs)) ≡ []
  on true e i = (λ k. cond (h x e k) (x ∷ filter q (filter p xs)) (filter q (filter p xs))) ∙ i
  on false e i = i

pub class_faulty : {A : Type 0} (c : A → A → Bool) (q : A → Bool) → ((x y : A) → c x y ≡ true → q y ≡ q x) → (xs : List A) → filter q (faulty c xs) ≡ faulty c (filter q xs)
class_faulty c q h [] = refl
class_faulty {A = A} c q h (x ∷ xs) = filter-append q (filter (c x) xs) (faulty c xs) ∙ on (q x) refl (class_faulty c q h xs) where
  on : (b : Bool) → q x ≡ b → filter q (faulty c xs) ≡ faulty c (filter q xs) → filter q (filter (c x) xs) ++ filter q (faulty c xs) ≡ faulty c (cond b (x ∷ filter q xs) (filter q xs))
  on true e i = λ k. filter_swap (c x) q xs k ++ i k
  on false e i = (λ k. filter_nothing (c x) q (λ y f. h x y f ∙ e) xs k ++ i k)
