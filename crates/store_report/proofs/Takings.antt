-- What gathered facts are taken for, once they are in order.
use Rattle.std.proofs.Common.{◌≡◌, Bool, true, false, true≢false, ◌&&◌, ◌||◌, cond, List, [], ◌∷◌, ◌++◌, map, Option, Some, None, Ordering, Less, Equal, Greater, bytes_eq, refl, sym, ap, ◌∙◌, subst, inl, inr}
use Rattle.std.proofs.lemmas.Cmp.{on_total}
use Rattle.std.proofs.lemmas.Slice.Eq.{bytes_eq-Decides}
use Rattle.std.specs.Cmp.{IsTotalOrder}
use Rattle.std.specs.List.{AllByRecursion, list_any, dedup}
use Rattle.std.specs.List.Sorted.{IsSorted, IsStable}
use Rattle.std.specs.Ordering.{match_ordering}
use Rattle.store_model.specs.store_record.Keys.{Text}
use Rattle.store_model.proofs.Seated.{of_among, each_among}
use Rattle.store_model.specs.Alike.{Among}
use Rattle.store_model.specs.FactOrder.{handle_cmp}
use Rattle.store_model.specs.Records.{typename}
use Rattle.store_model.specs.Says.{Put}
use Rattle.store_model.specs.Verdicts.{least, put_cmp, same_place, where_so, seat_of, seats_at, seats, places, with_one, in_order, first_conflict, content, refusal, unless_conflict}
use Rattle.store_model.specs.declared.facts.HandleFact.{HandleFact}
use Rattle.store_model.specs.declared.payload_fault.PayloadFault.{PayloadFault}
use Rattle.store_report.proofs.Clashes.{puts_placed, place_tied, and_left, and_right}
use Rattle.store_model.proofs.InOrder.{first_so, tied, first_of_order, order_map, kept_by_sort, dedup_is_order}
use Rattle.store_report.proofs.Orders.{facts_total}
use Rattle.store_report.proofs.Seatings.{so_alike, place_among, place_reached, settled_facts}
use Rattle.store_report.specs.Gathering.{AreNamed, IsNamed, verdict_of}
use Rattle.store_report.specs.SaidFacts.{fact_of, put_of, place_cmp, put_place_cmp, is_same_fact}
use Rattle.store_report.specs.declared.said.SaidFact.{SaidFact}

pub facts_placed : IsTotalOrder place_cmp
facts_placed = on_total fact_of facts_total

-- ---- each place is named

pub any_some : {A : Type 0} (test : A → Bool) (xs : List A) → list_any test xs ≡ true → (x : A) × Among x xs × (test x ≡ true)
any_some test [] h = absurd (true≢false (sym h))
any_some {A} test (x ∷ xs) h = at (test x) refl h (any_some test xs)
  where
    at : (b : Bool) → test x ≡ b → (b || list_any test xs) ≡ true → (list_any test xs ≡ true → (y : A) × Among y xs × (test y ≡ true)) → (y : A) × Among y (x ∷ xs) × (test y ≡ true)
    at true e g rest = (x, inl refl, e)
    at false e g rest = let r = rest g in (r.0, inr r.1, r.2)

some_any : {A : Type 0} (test : A → Bool) (x : A) (xs : List A) → Among x xs → test x ≡ true → list_any test xs ≡ true
some_any test x [] h e = absurd h
some_any test x (y ∷ ys) (inl same) e = ap (λ b. b || list_any test ys) (ap test same ∙ e)
some_any test x (y ∷ ys) (inr h) e = at (test y) (some_any test x ys h e)
  where
    at : (b : Bool) → list_any test ys ≡ true → (b || list_any test ys) ≡ true
    at true rest = refl
    at false rest = rest

pub first_among : {A : Type 0} (test : A → Bool) (xs : List A) (x : A) → first_so test xs ≡ Some x → Among x xs × (test x ≡ true)
first_among {A} test [] x e = absurd (subst IsThere (sym e) tt)
  where
    IsThere : Option A → Type 0
    IsThere None = ⊥
    IsThere (Some y) = Unit {0}
first_among {A} test (y ∷ ys) x e = at (test y) refl e (first_among test ys x)
  where
    got : Option A → A
    got None = y
    got (Some z) = z

    at : (b : Bool) → test y ≡ b → cond b (Some y) (first_so test ys) ≡ Some x → (first_so test ys ≡ Some x → Among x ys × (test x ≡ true)) → Among x (y ∷ ys) × (test x ≡ true)
    at true f g rest = (inl (ap got g), ap test (sym (ap got g)) ∙ f)
    at false f g rest = let r = rest g in (inr r.0, r.1)

beside_place : (ps : List Put) (q : Put) → Among q ps → (r : Put) × Among r (places ps) × (same_place q r ≡ true)
beside_place ps q h = at (first_so (tied put_place_cmp puts_placed q) (places ps)) refl
  where
    at : (o : Option Put) → first_so (tied put_place_cmp puts_placed q) (places ps) ≡ o → (r : Put) × Among r (places ps) × (same_place q r ≡ true)
    at None e = absurd (place_reached ps q h (sym (first_of_order put_place_cmp puts_placed q ps) ∙ e))
    at (Some r) e = let f = first_among (tied put_place_cmp puts_placed q) (places ps) r e in (r, f.0, place_tied q r ∙ f.1)

abbrev names : Text → Put → Bool
names id q = bytes_eq q.fact.id id && bytes_eq q.fact.key typename

names_beside : (id : Text) (q r : Put) → same_place q r ≡ true → names id q ≡ names id r
names_beside id q r e =
    let ids = (bytes_eq-Decides q.fact.id r.fact.id).0 (and_left (bytes_eq q.fact.id r.fact.id) (bytes_eq q.fact.key r.fact.key) e) in
    let keys = (bytes_eq-Decides q.fact.key r.fact.key).0 (and_right (bytes_eq q.fact.id r.fact.id) (bytes_eq q.fact.key r.fact.key) e) in
    λ i. bytes_eq (ids i) id && bytes_eq (keys i) typename

named_at : (ps : List Put) (id : Text) → list_any (names id) ps ≡ true → list_any (names id) (places ps) ≡ true
named_at ps id h =
    let one = any_some (names id) ps h in
    let place = beside_place ps one.0 one.1 in
    some_any (names id) place.0 (places ps) place.1 (sym (names_beside id one.0 place.0 place.2) ∙ one.2)

pub named_places : (ps : List Put) → AreNamed ps → AreNamed (places ps)
named_places ps named =
    each_among (IsNamed (places ps)) (places ps) (λ p h.
    let n : IsNamed ps p = of_among (IsNamed ps) p ps named (place_among ps p h) in
    record { name = n.name; there = named_at ps p.fact.id n.there })

-- ---- facts and the same facts in order

where_map : {A B : Type 0} (f : A → B) (test : B → Bool) (xs : List A) → where_so test (map f xs) ≡ map f (where_so (λ x. test (f x)) xs)
where_map f test [] = refl
where_map f test (x ∷ xs) = at (test (f x)) (where_map f test xs)
  where
    at : (b : Bool) → where_so test (map f xs) ≡ map f (where_so (λ y. test (f y)) xs)
        → cond b (f x ∷ where_so test (map f xs)) (where_so test (map f xs)) ≡ map f (cond b (x ∷ where_so (λ y. test (f y)) xs) (where_so (λ y. test (f y)) xs))
    at true rest = ap (λ ys. f x ∷ ys) rest
    at false rest = rest

facts_of_puts : (fs : List SaidFact) → map (λ q. q.fact) (map put_of fs) ≡ map fact_of fs
facts_of_puts [] = refl
facts_of_puts (f ∷ fs) = ap (λ gs. fact_of f ∷ gs) (facts_of_puts fs)

module _ (given sorted : List SaidFact) (up : IsSorted place_cmp sorted) (stable : IsStable place_cmp given sorted) where
  abbrev kept : List SaidFact
  kept = dedup is_same_fact sorted

  abbrev old : List Put
  old = map put_of given

  abbrev new : List Put
  new = map put_of sorted

  pub places_sorted : places new ≡ map put_of kept
  places_sorted = sym (order_map put_of put_place_cmp sorted) ∙ ap (map put_of) (sym (dedup_is_order place_cmp facts_placed sorted sorted up (λ x. refl)))

  places_given : places old ≡ map put_of kept
  places_given = sym (order_map put_of put_place_cmp given) ∙ ap (map put_of) (sym (dedup_is_order place_cmp facts_placed given sorted up stable))

  here_sorted : (f : SaidFact) → where_so (same_place (put_of f)) new ≡ where_so (same_place (put_of f)) old
  here_sorted f =
      where_map put_of (same_place (put_of f)) sorted
      ∙ ap (map put_of)
      (so_alike (λ g. same_place (put_of f) (put_of g)) (tied place_cmp facts_placed f) sorted (λ g. place_tied (put_of f) (put_of g))
      ∙ kept_by_sort place_cmp facts_placed given sorted stable f
      ∙ so_alike (tied place_cmp facts_placed f) (λ g. same_place (put_of f) (put_of g)) given (λ g. sym (place_tied (put_of f) (put_of g))))
      ∙ sym (where_map put_of (same_place (put_of f)) given)

  seats_alike : (fs : List SaidFact) → seats_at new (map put_of fs) ≡ seats_at old (map put_of fs)
  seats_alike [] = refl
  seats_alike (f ∷ fs) = (λ i. seat_of (here_sorted f i) (least put_cmp (here_sorted f i)) ++ seats_alike fs i)

  pub seats_sorted : seats new ≡ seats old
  seats_sorted = ap (seats_at new) places_sorted ∙ seats_alike kept ∙ sym (ap (seats_at old) places_given)

  pub named_kept : AreNamed old → AreNamed (map put_of kept)
  named_kept named = subst AreNamed places_given (named_places old named)

  pub taken_content : (pages : List HandleFact) → first_conflict (seats new) ≡ None
      → verdict_of (record { puts = old; pages = pages; fault = None }) ≡ content (record { facts = map fact_of kept; handles = in_order handle_cmp pages })
  taken_content pages none =
      ap (λ ss. unless_conflict (first_conflict ss) ss pages) (sym seats_sorted)
      ∙ ap (λ o. unless_conflict o (seats new) pages) none
      ∙ ap (λ fs. content (record { facts = fs; handles = in_order handle_cmp pages }))
      (settled_facts new (places new) (place_among new) none ∙ ap (map (λ (q : Put). q.fact)) places_sorted ∙ facts_of_puts kept)

  pub taken_refusal : (pages : List HandleFact) (fault : PayloadFault) → first_conflict (seats new) ≡ Some fault
      → verdict_of (record { puts = old; pages = pages; fault = None }) ≡ refusal fault
  taken_refusal pages fault some =
      ap (λ ss. unless_conflict (first_conflict ss) ss pages) (sym seats_sorted) ∙ ap (λ o. unless_conflict o (seats new) pages) some

-- ---- what holds of each page holds of them in order

module _ {A : Type 0} (cmp : A → A → Ordering) (P : A → Type 0) where
  one_keeps : (a : A) (xs : List A) → P a → AllByRecursion P xs → AllByRecursion P (with_one cmp a xs)
  one_keeps a [] h all = (h, tt)
  one_keeps a (x ∷ xs) h all = at (cmp a x) (one_keeps a xs h all.1)
    where
      at : (r : Ordering) → AllByRecursion P (with_one cmp a xs) → AllByRecursion P (match_ordering r (a ∷ x ∷ xs) (a ∷ xs) (x ∷ with_one cmp a xs))
      at Less rest = (h, all)
      at Equal rest = (h, all.1)
      at Greater rest = (all.0, rest)

  pub order_keeps : (xs : List A) → AllByRecursion P xs → AllByRecursion P (in_order cmp xs)
  order_keeps [] all = tt
  order_keeps (x ∷ xs) all = one_keeps x (in_order cmp xs) all.0 (order_keeps xs all.1)
