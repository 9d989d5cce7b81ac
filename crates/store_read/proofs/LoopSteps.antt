-- Loops that read one after another: what each shows, meets and looks up.
use Rattle.std.proofs.Common.{◌≡◌, ℕ, zero, suc, ◌+◌, ◌<◌, ◌≤◌, List, [], ◌∷◌, ◌++◌, map, drop, set, length, get_or, append_assoc, add-one, drop-cons, refl, sym, ap, ◌∙◌, subst, arith}
use Rattle.std.proofs.lemmas.List.{length-append, length-map}
use Rattle.plan_ir.specs.store_model.Walks.{Trace, join_traces}
use Rattle.store_read.proofs.MetSteps.{met_joined}
use Rattle.store_read.specs.Meeting.{Meeting, met_onto}

-- ---- lists that are seen as others

pub drop_at : {A : Type 0} (xs : List A) (i : ℕ) (x : A) → i < length xs → x ≡ get_or xs i x → drop i xs ≡ x ∷ drop (i + 1) xs
drop_at xs i x within is = drop-cons xs i x within ∙ (λ j. sym is j ∷ drop (sym (add-one i) j) xs)

module _ {A B : Type 0} (f : A → B) where
  view_get : (xs : List A) (i : ℕ) (x : A) → x ≡ get_or xs i x → f x ≡ get_or (map f xs) i (f x)
  view_get [] i x is = refl
  view_get (y ∷ ys) zero x is = ap f is
  view_get (y ∷ ys) (suc i) x is = view_get ys i x is

  -- an element, by what the list is seen as
  pub view_at : (xs : List A) (ys : List B) (i : ℕ) (x : A) → map f xs ≡ ys → i < length xs → x ≡ get_or xs i x → drop i ys ≡ f x ∷ drop (i + 1) ys
  view_at xs ys i x same within is =
      let inside : i < length (map f xs) = omega (arith, within, length-map xs f) in
      subst (λ zs. drop i zs ≡ f x ∷ drop (i + 1) zs) same (drop_at (map f xs) i (f x) inside (view_get xs i x is))

  -- a list with another element that is seen the same is seen the same
  pub view_set : (xs : List A) (i : ℕ) (x y : A) → x ≡ get_or xs i x → f y ≡ f x → map f (set xs i y) ≡ map f xs
  view_set [] i x y is e = refl
  view_set (z ∷ zs) zero x y is e = ap (λ b. b ∷ map f zs) (e ∙ ap f is)
  view_set (z ∷ zs) (suc i) x y is e = ap (λ bs. f z ∷ bs) (view_set zs i x y is e)

-- ---- one more

module _ {A X : Type 0} (shown : A → List X) (all_shown : List A → List X) (met : A → Trace) (all_met : List A → Trace)
    (shown_cons : (a : A) (bs : List A) → all_shown (a ∷ bs) ≡ shown a ++ all_shown bs) (met_cons : (a : A) (bs : List A) → all_met (a ∷ bs) ≡ join_traces (met a) (all_met bs))
    (xs : List A) (at : ℕ) (x : A) (is : drop at xs ≡ x ∷ drop (at + 1) xs) where
  pub shown_next : (start old new : List X) → old ++ all_shown (drop at xs) ≡ start → new ≡ old ++ shown x → new ++ all_shown (drop (at + 1) xs) ≡ start
  shown_next start old new whole e =
      ap (λ ys. ys ++ all_shown (drop (at + 1) xs)) e
      ∙ append_assoc old (shown x) (all_shown (drop (at + 1) xs))
      ∙ ap (λ ys. old ++ ys) (sym (shown_cons x (drop (at + 1) xs)) ∙ ap all_shown (sym is))
      ∙ whole

  met_left : join_traces (met x) (all_met (drop (at + 1) xs)) ≡ all_met (drop at xs)
  met_left = sym (met_cons x (drop (at + 1) xs)) ∙ ap all_met (sym is)

  pub met_next : (start old new : Meeting) → met_onto old (all_met (drop at xs)) ≡ start → new ≡ met_onto old (met x) → met_onto new (all_met (drop (at + 1) xs)) ≡ start
  met_next start old new whole e =
      ap (λ m. met_onto m (all_met (drop (at + 1) xs))) e
      ∙ met_joined old (met x) (all_met (drop (at + 1) xs))
      ∙ ap (met_onto old) met_left
      ∙ whole

  pub looks_next : (start old new : ℕ) → old + length (all_met (drop at xs)).seen ≤ start → new ≤ old + length (met x).seen → new + length (all_met (drop (at + 1) xs)).seen ≤ start
  looks_next start old new whole e =
      omega (arith, whole, e, length-append (met x).seen (all_met (drop (at + 1) xs)).seen, ap (λ (t : Trace). length t.seen) met_left)

  pub looks_here : (start old new : ℕ) → old + length (all_met (drop at xs)).seen ≤ start → new ≤ old + length (met x).seen → new ≤ start
  looks_here start old new whole e =
      omega (arith, whole, e, length-append (met x).seen (all_met (drop (at + 1) xs)).seen, ap (λ (t : Trace). length t.seen) met_left)
