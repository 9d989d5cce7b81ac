-- Steps one after another, and steps that find nothing new.
use Rattle.std.proofs.Common.{◌≡◌, ℕ, zero, suc, ◌+◌, ◌<◌, ◌≤◌, Bool, true, false, ◌||◌, ◌&&◌, List, [], ◌∷◌, ◌++◌, drop, length, get_or, Option, Some, None, bytes_eq, add-one, drop-cons, refl, sym, ap, ◌∙◌, subst, arith}
use Rattle.std.specs.List.{list_any}
use Rattle.plan_ir.specs.gql_plain.Order.{has_text}
use Rattle.plan_ir.specs.store_model.Entries.{some_id, some_ids}
use Rattle.plan_ir.specs.store_model.Walks.{Slots}
use Rattle.plan_ir.specs.store_record.Keys.{Text}
use Rattle.store_retain.proofs.Bools.{or_assoc, or_false, any_append, and_none, and_some}
use Rattle.store_retain.specs.Steps.{Found, Follows, Stand, Step, is_possible, steps_to}

module _ (m : Slots) (root : Text) where
  abbrev seen : Text → List Step → Bool
  seen j ss = list_any (λ s. bytes_eq s.id j) ss

  abbrev onward : (Stand → Bool) → List Step → Bool
  onward p ss = list_any (λ s. is_possible root s.types (m s.id) && p (s.id, s.parts)) ss

  pub follows_none : (f : Found) → Follows m root f f []
  follows_none f = record { ids = λ j. sym (or_false (has_text f.ids j)); next = λ p. sym (or_false (list_any p f.next)) }

  pub follows_then : (a b c : Found) (xs ys : List Step) → Follows m root a b xs → Follows m root b c ys → Follows m root a c (xs ++ ys)
  follows_then a b c xs ys f g = record {
    ids = λ j. g.ids j ∙ ap (λ x. x || seen j ys) (f.ids j) ∙ or_assoc (has_text a.ids j) (seen j xs) (seen j ys) ∙ ap (λ x. has_text a.ids j || x) (sym (any_append (λ s. bytes_eq s.id j) xs ys));
    next = λ p. g.next p ∙ ap (λ x. x || onward p ys) (f.next p) ∙ or_assoc (list_any p a.next) (onward p xs) (onward p ys)
        ∙ ap (λ x. list_any p a.next || x) (sym (any_append (λ s. is_possible root s.types (m s.id) && p (s.id, s.parts)) xs ys));
  }

  -- ---- one id

  -- it is seen, and the walk does not go on there
  pub follows_end : (a b : Found) (s : Step) → ((j : Text) → has_text b.ids j ≡ (has_text a.ids j || bytes_eq s.id j)) → b.next ≡ a.next → is_possible root s.types (m s.id) ≡ false → Follows m root a b (s ∷ [])
  follows_end a b s saw kept halts = record {
    ids = λ j. saw j ∙ ap (λ x. has_text a.ids j || x) (sym (or_false (bytes_eq s.id j)));
    next = λ p. ap (list_any p) kept ∙ sym (or_false (list_any p a.next)) ∙ ap (λ x. list_any p a.next || x) (and_none (is_possible root s.types (m s.id)) (p (s.id, s.parts)) halts ∙ sym (or_false (is_possible root s.types (m s.id) && p (s.id, s.parts))));
  }

  -- it is seen, and the walk goes on there
  pub follows_on : (a b c : Found) (s : Step) → ((j : Text) → has_text b.ids j ≡ (has_text a.ids j || bytes_eq s.id j)) → b.next ≡ a.next → c.ids ≡ b.ids
      → ((p : Stand → Bool) → list_any p c.next ≡ (list_any p b.next || p (s.id, s.parts))) → is_possible root s.types (m s.id) ≡ true → Follows m root a c (s ∷ [])
  follows_on a b c s saw kept same more holds = record {
    ids = λ j. ap (λ xs. has_text xs j) same ∙ saw j ∙ ap (λ x. has_text a.ids j || x) (sym (or_false (bytes_eq s.id j)));
    next = λ p. more p ∙ ap (λ xs. list_any p xs || p (s.id, s.parts)) kept
        ∙ ap (λ x. list_any p a.next || x) (and_some (is_possible root s.types (m s.id)) (p (s.id, s.parts)) holds ∙ sym (or_false (is_possible root s.types (m s.id) && p (s.id, s.parts))));
  }

-- ---- loops

pub drop_at : {A : Type 0} (xs : List A) (i : ℕ) (d x : A) → i < length xs → x ≡ get_or xs i d → drop i xs ≡ x ∷ drop (i + 1) xs
drop_at xs i d x within is = drop-cons xs i d within ∙ (λ j. sym is j ∷ drop (sym (add-one i) j) xs)

-- what is left leads to the whole: one more element
module _ (m : Slots) (root : Text) {A : Type 0} (own : A → List Step) (all : List A → List Step) (all_cons : (x : A) (xs : List A) → all (x ∷ xs) ≡ own x ++ all xs) where
  pub left_next : (xs : List A) (i : ℕ) (d x : A) (start old new : Found) → i < length xs → x ≡ get_or xs i d
      → ((end : Found) → Follows m root old end (all (drop i xs)) → Follows m root start end (all xs))
      → Follows m root old new (own x) → (end : Found) → Follows m root new end (all (drop (i + 1) xs)) → Follows m root start end (all xs)
  left_next xs i d x start old new within is left here end rest =
      left end (subst (λ ss. Follows m root old end ss) (sym (all_cons x (drop (i + 1) xs)) ∙ ap all (sym (drop_at xs i d x within is))) (follows_then m root old new end (own x) (all (drop (i + 1) xs)) here rest))

  drop_none : (xs : List A) (i : ℕ) → length xs ≤ i → drop i xs ≡ []
  drop_none [] zero h = refl
  drop_none [] (suc i) h = refl
  drop_none (x ∷ xs) zero h = absurd (omega (arith, h))
  drop_none (x ∷ xs) (suc i) h = drop_none xs i (omega (arith, h))

  -- nothing is left
  pub left_end : all [] ≡ [] → (xs : List A) (i : ℕ) (start old : Found) → length xs ≤ i → ((end : Found) → Follows m root old end (all (drop i xs)) → Follows m root start end (all xs)) → Follows m root start old (all xs)
  left_end none xs i start old h left = left old (subst (λ ss. Follows m root old old ss) (sym (ap all (drop_none xs i h) ∙ none)) (follows_none m root old))

  -- one more of an iterator, and its end
  pub iter_next : (left rest : List A) (x : A) (whole : List Step) (start old new : Found) → left ≡ x ∷ rest → ((end : Found) → Follows m root old end (all left) → Follows m root start end whole)
      → Follows m root old new (own x) → (end : Found) → Follows m root new end (all rest) → Follows m root start end whole
  iter_next left rest x whole start old new is before here end after =
      before end (subst (λ ss. Follows m root old end ss) (sym (all_cons x rest) ∙ ap all (sym is)) (follows_then m root old new end (own x) (all rest) here after))

  pub iter_end : all [] ≡ [] → (left : List A) (whole : List Step) (start old : Found) → left ≡ [] → ((end : Found) → Follows m root old end (all left) → Follows m root start end whole) → Follows m root start old whole
  iter_end none left whole start old is before = before old (subst (λ ss. Follows m root old old ss) (sym (ap all is ∙ none)) (follows_none m root old))

-- ids or the lack of one
pub to_next : (types : List Text) (ks : List ℕ) (o : Option Text) (os : List (Option Text)) → steps_to types ks (some_ids (o ∷ os)) ≡ steps_to types ks (some_id o) ++ steps_to types ks (some_ids os)
to_next types ks None os = refl
to_next types ks (Some id) os = refl
