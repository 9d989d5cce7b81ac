-- What rows hold is what the report is taken for that they hold.
use Rattle.std.proofs.Common.{◌≡◌, Bool, true, false, true≢false, cond, List, [], ◌∷◌, Option, Some, None, Ordering, Less, Equal, is_eq, refl, sym, ap, ◌∙◌, subst, inl, inr}
use Rattle.std.specs.Cmp.{IsTotalOrder}
use Rattle.std.specs.List.Sorted.{IsStrictlySortedBy}
use Rattle.std.specs.Ordering.{ordering_reverse}
use Rattle.store_model.proofs.InOrder.{first_so, tied, first_of_order, order_map, order_sorted, same_firsts}
use Rattle.store_model.proofs.Seated.{among_map, of_among}
use Rattle.store_model.specs.Alike.{Among}
use Rattle.store_model.specs.FactOrder.{fact_cmp, handle_cmp}
use Rattle.store_model.specs.Says.{Put, Report}
use Rattle.store_model.specs.Verdicts.{content, fault_cmp, first_conflict, in_order, least, places, seats, unless_conflict, unless_fault, verdict}
use Rattle.store_model.specs.declared.facts.Fact.{Fact}
use Rattle.store_report.proofs.Clashes.{AllAgree, is_tie, place_equal}
use Rattle.store_report.proofs.Orders.{facts_total}
use Rattle.store_report.proofs.Seatings.{agreed_seats, first_facts, place_among, settled_facts}
use Rattle.store_report.proofs.Takings.{first_among}
use Rattle.store_report.specs.ObjectRows.{HoldSame, facts_said}

-- ---- the first member that passes a test

-- where a member passes, one is the first
first_reached : {A : Type 0} (test : A → Bool) (x : A) (xs : List A) → Among x xs → test x ≡ true → first_so test xs ≡ None → ⊥
first_reached test x [] there pass e = there
first_reached {A} test x (y ∷ ys) there pass e = at (test y) refl e there (λ more. first_reached test x ys more pass)
  where
    IsThere : Option A → Type 0
    IsThere None = ⊥
    IsThere (Some z) = Unit {0}

    at : (b : Bool) → test y ≡ b → cond b (Some y) (first_so test ys) ≡ None → Among x (y ∷ ys) → (Among x ys → first_so test ys ≡ None → ⊥) → ⊥
    at true f g h rest = subst IsThere g tt
    at false f g (inl same) rest = true≢false (sym (ap test same ∙ pass) ∙ f)
    at false f g (inr more) rest = rest more g

-- of lists with the same members, of which one at most passes, the first that passes is the same
firsts_alike : {A : Type 0} (test : A → Bool) (xs ys : List A) → HoldSame xs ys
    → ((x y : A) → Among x xs → Among y xs → test x ≡ true → test y ≡ true → x ≡ y)
    → first_so test xs ≡ first_so test ys
firsts_alike {A} test xs ys same one = at (first_so test xs) refl (first_so test ys) refl
  where
    at : (o : Option A) → first_so test xs ≡ o → (p : Option A) → first_so test ys ≡ p → o ≡ p
    at None e None f = refl
    at None e (Some y) f = let k = first_among test ys y f in absurd (first_reached test y xs ((same y).1 k.0) k.1 e)
    at (Some x) e None f = let h = first_among test xs x e in absurd (first_reached test x ys ((same x).0 h.0) h.1 f)
    at (Some x) e (Some y) f =
        let h = first_among test xs x e in
        let k = first_among test ys y f in
        ap Some (one x y h.0 ((same y).1 k.0) h.1 k.1)

-- ---- lists that rise strictly

less_or_equal : {B : Type 0} (r : Ordering) → r ≡ Less → r ≡ Equal → B
less_or_equal r e f = absurd (true≢false (sym (ap is_eq f) ∙ ap is_eq e))

module _ {A : Type 0} (cmp : A → A → Ordering) (o : IsTotalOrder cmp) where
  -- members that tie are one
  one_of_tie : (xs : List A) → IsStrictlySortedBy cmp xs → (x y : A) → Among x xs → Among y xs → cmp x y ≡ Equal → x ≡ y
  unfolding IsStrictlySortedBy
  one_of_tie [] up x y h k e = absurd h
  one_of_tie (z ∷ zs) up x y (inl f) (inl g) e = sym f ∙ g
  one_of_tie (z ∷ zs) up x y (inl f) (inr k) e =
      less_or_equal (cmp x y) (subst (λ w. cmp w y ≡ Less) f (of_among (λ v. cmp z v ≡ Less) y zs up.0 k)) e
  one_of_tie (z ∷ zs) up x y (inr h) (inl g) e =
      less_or_equal (cmp y x) (subst (λ w. cmp w x ≡ Less) g (of_among (λ v. cmp z v ≡ Less) x zs up.0 h)) (o.antisymm y x ∙ ap ordering_reverse e)
  one_of_tie (z ∷ zs) up x y (inr h) (inr k) e = one_of_tie zs up.1 x y h k e

  -- such a list is that of its members in order
  rising_order : (xs ys : List A) → IsStrictlySortedBy cmp xs → HoldSame xs ys → xs ≡ in_order cmp ys
  rising_order xs ys up same =
      same_firsts cmp o xs (in_order cmp ys) up (order_sorted cmp o ys)
      (λ z. firsts_alike (tied cmp o z) xs ys same (λ x y h k e f.
      one_of_tie xs up x y h k (sym (o.congr z x y (is_tie (cmp z x) e)) ∙ is_tie (cmp z y) f))
      ∙ sym (first_of_order cmp o z ys))

-- ---- what the report is taken for

pub rows_verdict : (r : Report) (facts : List Fact) → least fault_cmp r.faults ≡ None → IsStrictlySortedBy fact_cmp facts → HoldSame facts (facts_said r)
    → verdict r ≡ content (record { facts = facts; handles = in_order handle_cmp r.pages })
rows_verdict r facts none up same =
    ap (λ fault. unless_fault fault r) none
    ∙ ap (λ o. unless_conflict o (seats r.puts) r.pages) settled
    ∙ ap (λ fs. content (record { facts = fs; handles = in_order handle_cmp r.pages })) taken
  where
    held : (p : Put) → Among p r.puts → Among p.fact facts
    held p h = (same p.fact).1 (among_map (λ (q : Put). q.fact) p r.puts h)

    agree : AllAgree r.puts
    agree p q h k place = ap (λ (f : Fact). f.value) (one_of_tie fact_cmp facts_total facts up p.fact q.fact (held p h) (held q k) (place_equal p q place))

    settled : first_conflict (seats r.puts) ≡ None
    settled = agreed_seats r.puts (places r.puts) agree (place_among r.puts)

    taken : first_facts (seats r.puts) ≡ facts
    taken =
        settled_facts r.puts (places r.puts) (place_among r.puts) settled
        ∙ order_map (λ (q : Put). q.fact) fact_cmp r.puts
        ∙ sym (rising_order fact_cmp facts_total facts (facts_said r) up same)
