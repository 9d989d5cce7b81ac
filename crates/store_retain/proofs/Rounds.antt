-- Rounds find what the reach holds.
use Rattle.std.proofs.Common.{◌≡◌, ℕ, zero, suc, Bool, true, false, cond, ◌||◌, ◌&&◌, List, [], ◌∷◌, ◌++◌, bytes_eq, refl, sym, ap, ◌∙◌}
use Rattle.std.specs.List.{list_any}
use Rattle.plan_ir.specs.gql_plain.Order.{has_text}
use Rattle.plan_ir.specs.store_model.Walks.{Slots}
use Rattle.plan_ir.specs.store_record.Keys.{Text}
use Rattle.store_retain.proofs.Bools.{or_assoc, or_false, any_append, any_either}
use Rattle.store_retain.specs.Reach.{after_each, reach_step}
use Rattle.store_retain.specs.Steps.{Found, Follows, Stand, Step, is_possible, stand_steps, stands_steps}
use Rattle.store_retain.specs.Ways.{Parts}

module _ (m : Slots) (root : Text) (ps : Parts) (j : Text) where
  -- whether the id stands below a record, so many records down
  abbrev below : ℕ → Stand → Bool
  below n s = has_text (after_each (reach_step m root ps n) (stand_steps m root ps s)) j

  abbrev below_all : ℕ → List Stand → Bool
  below_all zero ss = false
  below_all (suc n) ss = list_any (below n) ss

  -- whether it is found, or stands below where the walk goes on, with so many rounds left
  abbrev pub still : ℕ → Found → Bool
  still n f = has_text f.ids j || below_all n f.next

  cond_and : (b : Bool) (xs : List Text) → has_text (cond b xs []) j ≡ (b && has_text xs j)
  cond_and true xs = refl
  cond_and false xs = refl

  after_last : (ss : List Step) → has_text (after_each (reach_step m root ps zero) ss) j ≡ list_any (λ s. bytes_eq s.id j) ss
  after_last [] = refl
  after_last (s ∷ ss) = ap (λ b. bytes_eq s.id j || b) (after_last ss)

  -- the ids of steps, and what stands below them
  after_more : (n : ℕ) (ss : List Step)
      → has_text (after_each (reach_step m root ps (suc n)) ss) j ≡ list_any (λ s. bytes_eq s.id j || (is_possible root s.types (m s.id) && below n (s.id, s.parts))) ss
  after_more n [] = refl
  after_more n (s ∷ ss) =
      let inner : List Text = after_each (reach_step m root ps n) (stand_steps m root ps (s.id, s.parts)) in
      any_append (λ one. bytes_eq one j) (reach_step m root ps (suc n) s) (after_each (reach_step m root ps (suc n)) ss)
      ∙ (λ i. (bytes_eq s.id j || cond_and (is_possible root s.types (m s.id)) inner i) || after_more n ss i)

  after_append : (n : ℕ) (xs ys : List Step) → has_text (after_each (reach_step m root ps n) (xs ++ ys)) j ≡ (has_text (after_each (reach_step m root ps n) xs) j || has_text (after_each (reach_step m root ps n) ys) j)
  after_append n [] ys = refl
  after_append n (x ∷ xs) ys =
      any_append (λ one. bytes_eq one j) (reach_step m root ps n x) (after_each (reach_step m root ps n) (xs ++ ys))
      ∙ ap (λ b. has_text (reach_step m root ps n x) j || b) (after_append n xs ys)
      ∙ sym (or_assoc (has_text (reach_step m root ps n x) j) (has_text (after_each (reach_step m root ps n) xs) j) (has_text (after_each (reach_step m root ps n) ys) j))
      ∙ ap (λ b. b || has_text (after_each (reach_step m root ps n) ys) j) (sym (any_append (λ one. bytes_eq one j) (reach_step m root ps n x) (after_each (reach_step m root ps n) xs)))

  over_stands : (n : ℕ) (ss : List Stand) → list_any (below n) ss ≡ has_text (after_each (reach_step m root ps n) (stands_steps m root ps ss)) j
  over_stands n [] = refl
  over_stands n (s ∷ ss) = ap (λ b. below n s || b) (over_stands n ss) ∙ sym (after_append n (stand_steps m root ps s) (stands_steps m root ps ss))

  -- one round
  pub round : (n : ℕ) (old mid new : Found) → mid ≡ record { ids = old.ids; next = [] } → Follows m root mid new (stands_steps m root ps old.next) → still n new ≡ still (suc n) old
  round zero old mid new is f =
      or_false (has_text new.ids j) ∙ f.ids j ∙ ap (λ (g : Found). has_text g.ids j || list_any (λ s. bytes_eq s.id j) (stands_steps m root ps old.next)) is
      ∙ ap (λ b. has_text old.ids j || b) (sym (over_stands zero old.next ∙ after_last (stands_steps m root ps old.next)))
  round (suc n) old mid new is f =
      let ss = stands_steps m root ps old.next in
      let seen : Bool = list_any (λ s. bytes_eq s.id j) ss in
      let onward : Bool = list_any (λ s. is_possible root s.types (m s.id) && below n (s.id, s.parts)) ss in
      (λ i. f.ids j i || f.next (below n) i)
      ∙ ap (λ (g : Found). (has_text g.ids j || seen) || (list_any (below n) g.next || onward)) is
      ∙ or_assoc (has_text old.ids j) seen onward
      ∙ ap (λ b. has_text old.ids j || b) (sym (over_stands (suc n) old.next ∙ after_more n ss ∙ any_either (λ s. bytes_eq s.id j) (λ s. is_possible root s.types (m s.id) && below n (s.id, s.parts)) ss))

  -- the first step
  pub begun : (n : ℕ) (old mid new : Found) (s : Step) → mid ≡ record { ids = old.ids; next = [] } → Follows m root mid new (s ∷ []) → still n new ≡ (has_text old.ids j || has_text (reach_step m root ps n s) j)
  begun zero old mid new s is f =
      or_false (has_text new.ids j) ∙ f.ids j ∙ ap (λ (g : Found). has_text g.ids j || (bytes_eq s.id j || false)) is
  begun (suc n) old mid new s is f =
      let here : Bool = bytes_eq s.id j in
      let onward : Bool = is_possible root s.types (m s.id) && below n (s.id, s.parts) in
      (λ i. f.ids j i || f.next (below n) i)
      ∙ ap (λ (g : Found). (has_text g.ids j || (here || false)) || (list_any (below n) g.next || (onward || false))) is
      ∙ (λ i. (has_text old.ids j || or_false here i) || or_false onward i)
      ∙ or_assoc (has_text old.ids j) here onward
      ∙ ap (λ b. has_text old.ids j || (here || b)) (sym (cond_and (is_possible root s.types (m s.id)) (after_each (reach_step m root ps n) (stand_steps m root ps (s.id, s.parts)))))
