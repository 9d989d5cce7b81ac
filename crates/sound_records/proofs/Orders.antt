-- What a payload says stands in order: its facts by id and key, its pages by parent, handle key and field key.
use Rattle.std.proofs.Common.{◌≡◌, Bool, true, false, true≢false, cond, ◌&&◌, List, [], ◌∷◌, ◌++◌, map, Option, Some, None, Ordering, Less, refl, sym, ◌∙◌, bytes_eq}
use Rattle.std.proofs.lemmas.Cmp.{nat_list_cmp_total, on_total, then_total}
use Rattle.std.proofs.lemmas.Slice.Eq.{bytes_eq-Decides}
use Rattle.std.specs.Cmp.{IsTotalOrder}
use Rattle.std.specs.List.Sorted.{IsStrictlySortedBy}
use Rattle.std.specs.Ordering.{is_lt, ordering_then}
use Rattle.store_model.proofs.InOrder.{order_sorted}
use Rattle.store_model.proofs.Least.{Each}
use Rattle.store_model.proofs.Seated.{each_among}
use Rattle.store_model.proofs.Seats.{among_where}
use Rattle.store_model.specs.FactOrder.{AreHandlesInOrder, fact_cmp, handle_cmp, text_cmp}
use Rattle.store_model.specs.Says.{Put}
use Rattle.store_model.specs.Verdicts.{in_order, least, lesser_of, places, put_cmp, same_place, seat_of, seats, seats_at, where_so}
use Rattle.store_model.specs.declared.facts.Fact.{Fact}
use Rattle.store_model.specs.declared.facts.HandleFact.{HandleFact}
use Rattle.sound_records.proofs.Slots.{Of}

-- ---- total orders

facts_total : IsTotalOrder fact_cmp
facts_total = then_total (on_total (λ (f : Fact). f.id) nat_list_cmp_total) (on_total (λ (f : Fact). f.key) nat_list_cmp_total)

handles_total : IsTotalOrder handle_cmp
handles_total =
    then_total (on_total (λ (h : HandleFact). h.parent) nat_list_cmp_total)
    (then_total (on_total (λ (h : HandleFact). h.handle_key) nat_list_cmp_total) (on_total (λ (h : HandleFact). h.field_key) nat_list_cmp_total))

pub pages_rise : (pages : List HandleFact) → AreHandlesInOrder (in_order handle_cmp pages)
pages_rise pages = order_sorted handle_cmp handles_total pages

-- ---- seats

-- what holds of each of a list holds of the least
least_holds : {A : Type 0} (P : A → Type 0) (cmp : A → A → Ordering) (xs : List A) → Each P xs → Of P (least cmp xs)
least_holds P cmp [] h = tt
least_holds {A = A} P cmp (a ∷ rest) h = at (least cmp rest) (least_holds P cmp rest h.1)
  where
    at : (o : Option A) → Of P o → P (lesser_of cmp a o)
    at None k = h.0
    at (Some b) k = elim (is_lt (cmp b a)) as (λ c. P (cond c b a)) [ true ↦ k | false ↦ h.0 ]

abbrev put_order : Put → Put → Ordering
put_order p q = fact_cmp p.fact q.fact

both_left : (a b : Bool) → (a && b) ≡ true → a ≡ true
both_left true b h = refl
both_left false b h = h

both_right : (a b : Bool) → (a && b) ≡ true → b ≡ true
both_right true b h = h
both_right false b h = absurd (true≢false (sym h))

-- facts of the same places stand in the same order
same_order : (p f q g : Put) → same_place p f ≡ true → same_place q g ≡ true → fact_cmp f.fact g.fact ≡ fact_cmp p.fact q.fact
same_order p f q g e d =
    let ids = (bytes_eq-Decides p.fact.id f.fact.id).0 (both_left (bytes_eq p.fact.id f.fact.id) (bytes_eq p.fact.key f.fact.key) e) in
    let keys = (bytes_eq-Decides p.fact.key f.fact.key).0 (both_right (bytes_eq p.fact.id f.fact.id) (bytes_eq p.fact.key f.fact.key) e) in
    let others = (bytes_eq-Decides q.fact.id g.fact.id).0 (both_left (bytes_eq q.fact.id g.fact.id) (bytes_eq q.fact.key g.fact.key) d) in
    let ends = (bytes_eq-Decides q.fact.key g.fact.key).0 (both_right (bytes_eq q.fact.id g.fact.id) (bytes_eq q.fact.key g.fact.key) d) in
    sym (λ i. ordering_then (text_cmp (ids i) (others i)) (text_cmp (keys i) (ends i)))

module _ (puts : List Put) where
  abbrev here : Put → List Put
  here p = where_so (same_place p) puts

  -- the first of a seat is of its place
  placed : (p : Put) → Of (λ f. same_place p f ≡ true) (least put_cmp (here p))
  placed p = least_holds (λ f. same_place p f ≡ true) put_cmp (here p) (each_among (λ f. same_place p f ≡ true) (here p) (λ f there. (among_where (same_place p) f puts there).1))

  after : (p f : Put) → same_place p f ≡ true → (qs : List Put) → Each (λ q. put_order p q ≡ Less) qs → Each (λ x. fact_cmp f.fact x ≡ Less) (map (λ s. s.first.fact) (seats_at puts qs))
  after p f e [] all = tt
  after p f e (q ∷ qs) all = at (least put_cmp (here q)) (placed q) (after p f e qs all.1)
    where
      at : (o : Option Put) → Of (λ g. same_place q g ≡ true) o → Each (λ x. fact_cmp f.fact x ≡ Less) (map (λ s. s.first.fact) (seats_at puts qs))
          → Each (λ x. fact_cmp f.fact x ≡ Less) (map (λ s. s.first.fact) (seat_of (here q) o ++ seats_at puts qs))
      at None k rest = rest
      at (Some g) k rest = (same_order p f q g e k ∙ all.0, rest)

  rise : (ps : List Put) → IsStrictlySortedBy put_order ps → IsStrictlySortedBy fact_cmp (map (λ s. s.first.fact) (seats_at puts ps))
  unfolding IsStrictlySortedBy
  rise [] up = tt
  rise (p ∷ ps) up = at (least put_cmp (here p)) (placed p) (rise ps up.1)
    where
      at : (o : Option Put) → Of (λ f. same_place p f ≡ true) o → IsStrictlySortedBy fact_cmp (map (λ s. s.first.fact) (seats_at puts ps))
          → IsStrictlySortedBy fact_cmp (map (λ s. s.first.fact) (seat_of (here p) o ++ seats_at puts ps))
      at None k rest = rest
      at (Some f) k rest = (after p f k ps up.0, rest)

  pub facts_rise : IsStrictlySortedBy fact_cmp (map (λ s. s.first.fact) (seats puts))
  facts_rise = rise (places puts) (order_sorted put_order (record { antisymm = λ x y. facts_total.antisymm x.fact y.fact; trans = λ x y z. facts_total.trans x.fact y.fact z.fact; congr = λ x y z. facts_total.congr x.fact y.fact z.fact }) puts)
