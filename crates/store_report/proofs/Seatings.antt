-- The seats of puts: without a second value where all agree, and the first with two values where one clashes.
use Rattle.std.proofs.Common.{◌≡◌, Bool, true, false, true≢false, not, ◌&&◌, cond, List, [], ◌∷◌, ◌++◌, map, Option, Some, None, Ordering, Less, Equal, Greater, is_eq, refl, sym, ap, ◌∙◌, subst, inl, inr}
use Rattle.std.proofs.lemmas.Cmp.{tied_itself}
use Rattle.std.specs.List.{AllByRecursion}
use Rattle.std.specs.List.Sorted.{IsStrictlySortedBy}
use Rattle.std.specs.Ordering.{is_lt, match_ordering, ordering_reverse}
use Rattle.store_model.specs.store_record.Equal.{field_eq, field_eq-Decides}
use Rattle.store_model.specs.store_record.declared.field.Field.{Field}
use Rattle.store_model.specs.Alike.{Among}
use Rattle.store_model.specs.Says.{Put}
use Rattle.store_model.specs.Verdicts.{lesser_of, least, put_cmp, same_place, where_so, Seat, seat_of, seat_at, with_one, places, seats_at, seats, conflict_of, first_conflict}
use Rattle.store_model.specs.declared.facts.Fact.{Fact}
use Rattle.store_report.proofs.Clashes.{puts_placed, place_tied, place_itself, place_as, same_fact, Agree, AllAgree, IsClash}
use Rattle.store_model.proofs.InOrder.{first_so, tied, order_sorted, first_of_order}
use Rattle.store_report.specs.SaidFacts.{put_place_cmp, is_candidate}

-- ---- members that pass a test

abbrev IsThere : {A : Type 0} → Option A → Type 0
IsThere None = ⊥
IsThere (Some x) = Unit {0}

some_none : {A B : Type 0} (a : A) → Some a ≡ None → B
some_none a e = absurd (subst IsThere e tt)

module _ {A : Type 0} (test : A → Bool) where
  so_among : (x : A) (xs : List A) → Among x (where_so test xs) → Among x xs × (test x ≡ true)
  so_among x [] h = absurd h
  so_among x (y ∷ ys) h = at (test y) refl h (so_among x ys)
    where
      at : (b : Bool) → test y ≡ b → Among x (cond b (y ∷ where_so test ys) (where_so test ys)) → (Among x (where_so test ys) → Among x ys × (test x ≡ true)) → Among x (y ∷ ys) × (test x ≡ true)
      at true e (inl same) rest = (inl same, subst (λ z. test z ≡ true) same e)
      at true e (inr there) rest = (inr (rest there).0, (rest there).1)
      at false e there rest = (inr (rest there).0, (rest there).1)

  among_so : (x : A) (xs : List A) → Among x xs → test x ≡ true → Among x (where_so test xs)
  among_so x [] h e = absurd h
  among_so x (y ∷ ys) h e = at (test y) refl h (λ there. among_so x ys there e)
    where
      at : (b : Bool) → test y ≡ b → Among x (y ∷ ys) → (Among x ys → Among x (where_so test ys)) → Among x (cond b (y ∷ where_so test ys) (where_so test ys))
      at true f (inl same) rest = inl same
      at true f (inr there) rest = inr (rest there)
      at false f (inl same) rest = absurd (true≢false (sym (subst (λ z. test z ≡ true) (sym same) e) ∙ f))
      at false f (inr there) rest = rest there

  none_so : (xs : List A) → ((x : A) → Among x xs → test x ≡ false) → where_so test xs ≡ []
  none_so [] f = refl
  none_so (x ∷ xs) f = ap (λ b. cond b (x ∷ where_so test xs) (where_so test xs)) (f x (inl refl)) ∙ none_so xs (λ y there. f y (inr there))

pub so_alike : {A : Type 0} (p q : A → Bool) (xs : List A) → ((x : A) → p x ≡ q x) → where_so p xs ≡ where_so q xs
so_alike p q [] same = refl
so_alike p q (x ∷ xs) same = (λ i. cond (same x i) (x ∷ so_alike p q xs same i) (so_alike p q xs same i))

so_twice : {A : Type 0} (p q : A → Bool) (xs : List A) → where_so (λ x. p x && q x) xs ≡ where_so q (where_so p xs)
so_twice p q [] = refl
so_twice p q (x ∷ xs) = at (p x) (so_twice p q xs)
  where
    at : (b : Bool) → where_so (λ y. p y && q y) xs ≡ where_so q (where_so p xs)
        → cond (b && q x) (x ∷ where_so (λ y. p y && q y) xs) (where_so (λ y. p y && q y) xs) ≡ where_so q (cond b (x ∷ where_so p xs) (where_so p xs))
    at true rest = ap (λ ys. cond (q x) (x ∷ ys) ys) rest
    at false rest = rest

so_all : {A : Type 0} (xs : List A) → where_so (λ x. true) xs ≡ xs
so_all [] = refl
so_all (x ∷ xs) = ap (λ ys. x ∷ ys) (so_all xs)

-- the puts of a place, and those of them with another value
pub candidates : (p : Put) (ps : List Put) → where_so (is_candidate p None) ps ≡ where_so (same_place p) ps
candidates p ps = so_twice (same_place p) (λ q. true) ps ∙ so_all (where_so (same_place p) ps)

pub unlike_candidates : (p : Put) (value : Field) (ps : List Put)
    → where_so (is_candidate p (Some value)) ps ≡ where_so (λ q. not (field_eq q.fact.value value)) (where_so (same_place p) ps)
unlike_candidates p value ps = so_twice (same_place p) (λ q. not (field_eq q.fact.value value)) ps

-- ---- the least

none_least : {A : Type 0} (cmp : A → A → Ordering) (xs : List A) (x : A) → Among x xs → least cmp xs ≡ None → ⊥
none_least cmp [] x there e = there
none_least cmp (y ∷ ys) x there e = some_none (lesser_of cmp y (least cmp ys)) e

least_among : {A : Type 0} (cmp : A → A → Ordering) (xs : List A) (x : A) → least cmp xs ≡ Some x → Among x xs
least_among cmp [] x e = some_none x (sym e)
least_among {A} cmp (y ∷ ys) x e = at (least cmp ys) refl e (λ f. least_among cmp ys x f)
  where
    got : Option A → A
    got None = y
    got (Some z) = z

    choose : (z : A) → least cmp ys ≡ Some z → (b : Bool) → Some (cond b z y) ≡ Some x → (least cmp ys ≡ Some x → Among x ys) → Among x (y ∷ ys)
    choose z f true g rest = inr (rest (f ∙ g))
    choose z f false g rest = inl (ap got g)

    at : (o : Option A) → least cmp ys ≡ o → Some (lesser_of cmp y o) ≡ Some x → (least cmp ys ≡ Some x → Among x ys) → Among x (y ∷ ys)
    at None f g rest = inl (ap got g)
    at (Some z) f g rest = choose z f (is_lt (cmp z y)) g rest

-- ---- a place whose puts agree has one value

abbrev alone : Put → Seat
alone p = record { first = p; second = None }

pub record IsUniform (ps : List Put) (p : Put) : Type 0 where
  pub first : Put
  pub is : seat_at ps p ≡ alone first ∷ []
  pub same : first.fact ≡ p.fact

pub uniform : (ps : List Put) (p : Put) → Among p ps → ((q : Put) → Among q ps → Agree p q) → IsUniform ps p
uniform ps p there agree = at (least put_cmp (where_so (same_place p) ps)) refl
  where
    equal_to : (f : Put) → p.fact.value ≡ f.fact.value → (q : Put) → Among q (where_so (same_place p) ps) → not (field_eq q.fact.value f.fact.value) ≡ false
    equal_to f e q h =
        let r = so_among (same_place p) q ps h in
        ap not ((field_eq-Decides q.fact.value f.fact.value).1 (sym (agree q r.0 r.1) ∙ e))

    at : (o : Option Put) → least put_cmp (where_so (same_place p) ps) ≡ o → IsUniform ps p
    at None e = absurd (none_least put_cmp (where_so (same_place p) ps) p (among_so (same_place p) p ps there (place_itself p)) e)
    at (Some f) e =
        let r = so_among (same_place p) f ps (least_among put_cmp (where_so (same_place p) ps) f e) in
        let value : p.fact.value ≡ f.fact.value = agree f r.0 r.1 in
        record {
          first = f;
          is =
              ap (seat_of (where_so (same_place p) ps)) e
              ∙ ap (λ qs. record { first = f; second = least put_cmp qs } ∷ [])
              (none_so (λ q. not (field_eq q.fact.value f.fact.value)) (where_so (same_place p) ps) (equal_to f value));
          same = sym (same_fact p f r.1 value);
        }

-- ---- all agree

abbrev pub first_facts : List Seat → List Fact
first_facts ss = map (λ s. s.first.fact) ss

-- where no seat has a second value, each has that of any put of its place
pub settled_facts : (ps qs : List Put) → ((q : Put) → Among q qs → Among q ps) → first_conflict (seats_at ps qs) ≡ None → first_facts (seats_at ps qs) ≡ map (λ q. q.fact) qs
settled_facts ps [] inside none = refl
settled_facts ps (q ∷ qs) inside none = at (least put_cmp (where_so (same_place q) ps)) refl none (settled_facts ps qs (λ r h. inside r (inr h)))
  where
    own : Among q (where_so (same_place q) ps)
    own = among_so (same_place q) q ps (inside q (inl refl)) (place_itself q)

    equal : (f : Put) → least put_cmp (where_so (λ r. not (field_eq r.fact.value f.fact.value)) (where_so (same_place q) ps)) ≡ None → (b : Bool) → field_eq q.fact.value f.fact.value ≡ b → q.fact.value ≡ f.fact.value
    equal f e true g = (field_eq-Decides q.fact.value f.fact.value).0 g
    equal f e false g =
        absurd (none_least put_cmp (where_so (λ r. not (field_eq r.fact.value f.fact.value)) (where_so (same_place q) ps)) q
        (among_so (λ r. not (field_eq r.fact.value f.fact.value)) q (where_so (same_place q) ps) own (ap not g)) e)

    second : (f : Put) → Among f (where_so (same_place q) ps) → (o : Option Put)
        → least put_cmp (where_so (λ r. not (field_eq r.fact.value f.fact.value)) (where_so (same_place q) ps)) ≡ o
        → first_conflict (record { first = f; second = o } ∷ seats_at ps qs) ≡ None
        → (first_conflict (seats_at ps qs) ≡ None → first_facts (seats_at ps qs) ≡ map (λ r. r.fact) qs)
        → f.fact ∷ first_facts (seats_at ps qs) ≡ q.fact ∷ map (λ r. r.fact) qs
    second f h None e g rest =
        let place : same_place q f ≡ true = (so_among (same_place q) f ps h).1 in
        (λ i. sym (same_fact q f place (equal f e (field_eq q.fact.value f.fact.value) refl)) i ∷ rest g i)
    second f h (Some r) e g rest = some_none (conflict_of f r) g

    at : (o : Option Put) → least put_cmp (where_so (same_place q) ps) ≡ o → first_conflict (seat_of (where_so (same_place q) ps) o ++ seats_at ps qs) ≡ None
        → (first_conflict (seats_at ps qs) ≡ None → first_facts (seats_at ps qs) ≡ map (λ r. r.fact) qs)
        → first_facts (seat_of (where_so (same_place q) ps) o ++ seats_at ps qs) ≡ q.fact ∷ map (λ r. r.fact) qs
    at None e g rest = absurd (none_least put_cmp (where_so (same_place q) ps) q own e)
    at (Some f) e g rest =
        second f (least_among put_cmp (where_so (same_place q) ps) f e)
        (least put_cmp (where_so (λ r. not (field_eq r.fact.value f.fact.value)) (where_so (same_place q) ps))) refl g rest

pub agreed_seats : (ps qs : List Put) → AllAgree ps → ((q : Put) → Among q qs → Among q ps) → first_conflict (seats_at ps qs) ≡ None
agreed_seats ps [] agree inside = refl
agreed_seats ps (q ∷ qs) agree inside =
    let u = uniform ps q (inside q (inl refl)) (λ r h. agree q r (inside q (inl refl)) h) in
    ap (λ ss. first_conflict (ss ++ seats_at ps qs)) u.is ∙ agreed_seats ps qs agree (λ r h. inside r (inr h))

-- ---- one clashes

module _ (ps : List Put) (c : Put) (clash : IsClash ps c) where
  abbrev pub here : List Put
  here = where_so (same_place c) ps

  abbrev pub unlike : Put → List Put
  unlike first = where_so (λ q. not (field_eq q.fact.value first.fact.value)) here

  pub first_there : least put_cmp here ≡ None → ⊥
  first_there e = none_least put_cmp here c (among_so (same_place c) c ps clash.there (place_itself c)) e

  -- of two different values one differs from any third
  pub second_there : (first : Put) → least put_cmp (unlike first) ≡ None → ⊥
  second_there first e = at (field_eq c.fact.value first.fact.value) refl (field_eq clash.other.fact.value first.fact.value) refl
    where
      differs_at : (q : Put) → Among q here → field_eq q.fact.value first.fact.value ≡ false → ⊥
      differs_at q h f =
          none_least put_cmp (unlike first) q (among_so (λ r. not (field_eq r.fact.value first.fact.value)) q here h (ap not f)) e

      at : (a : Bool) → field_eq c.fact.value first.fact.value ≡ a → (b : Bool) → field_eq clash.other.fact.value first.fact.value ≡ b → ⊥
      at false f b g = differs_at c (among_so (same_place c) c ps clash.there (place_itself c)) f
      at true f false g = differs_at clash.other (among_so (same_place c) clash.other ps clash.other_there clash.beside) g
      at true f true g =
          let same : clash.other.fact.value ≡ c.fact.value
          = (field_eq-Decides clash.other.fact.value first.fact.value).0 g ∙ sym ((field_eq-Decides c.fact.value first.fact.value).0 f) in
          true≢false (sym ((field_eq-Decides clash.other.fact.value c.fact.value).1 same) ∙ clash.differs)

  -- a put of the place of another has its seat
  same_seat : (p : Put) → same_place p c ≡ true → seat_at ps p ≡ seat_at ps c
  same_seat p e = ap (λ qs. seat_of qs (least put_cmp qs)) (so_alike (same_place p) (same_place c) ps (λ q. place_as p c q e))

  none_beyond : (q : Put) (qs : List Put) → put_place_cmp c q ≡ Less → AllByRecursion (λ r. put_place_cmp q r ≡ Less) qs → first_so (tied put_place_cmp puts_placed c) qs ≡ None
  none_beyond q [] e all = refl
  none_beyond q (r ∷ rs) e all =
      ap (λ t. cond t (Some r) (first_so (tied put_place_cmp puts_placed c) rs)) (ap is_eq (puts_placed.trans c q r e all.0)) ∙ none_beyond q rs e all.1

  abbrev found : Put → Put → Type 0
  found first second = (least put_cmp here ≡ Some first) × (least put_cmp (unlike first) ≡ Some second)

  conflict_at : (first second : Put) → least put_cmp here ≡ Some first → least put_cmp (unlike first) ≡ Some second
      → (qs : List Put) → IsStrictlySortedBy put_place_cmp qs → ((q : Put) → Among q qs → Among q ps) → (first_so (tied put_place_cmp puts_placed c) qs ≡ None → ⊥)
      → first_conflict (seats_at ps qs) ≡ Some (conflict_of first second)
  unfolding IsStrictlySortedBy
  conflict_at first second f s [] up inside reached = absurd (reached refl)
  conflict_at first second f s (q ∷ qs) up inside reached = at (put_place_cmp q c) refl (λ more. conflict_at first second f s qs up.1 (λ r h. inside r (inr h)) more)
    where
      seat_found : seat_at ps c ≡ record { first = first; second = Some second } ∷ []
      seat_found = ap (seat_of here) f ∙ ap (λ o. record { first = first; second = o } ∷ []) s

      at : (r : Ordering) → put_place_cmp q c ≡ r
          → ((first_so (tied put_place_cmp puts_placed c) qs ≡ None → ⊥) → first_conflict (seats_at ps qs) ≡ Some (conflict_of first second))
          → first_conflict (seats_at ps (q ∷ qs)) ≡ Some (conflict_of first second)
      at Less e rest =
          let u = uniform ps q (inside q (inl refl)) (λ r h. clash.before q r (inside q (inl refl)) h (ap is_lt e)) in
          ap (λ ss. first_conflict (ss ++ seats_at ps qs)) u.is
          ∙ rest (λ none. reached (ap (λ t. cond t (Some q) (first_so (tied put_place_cmp puts_placed c) qs)) (ap is_eq (puts_placed.antisymm c q ∙ ap ordering_reverse e)) ∙ none))
      at Equal e rest = ap (λ ss. first_conflict (ss ++ seats_at ps qs)) (same_seat q (place_tied q c ∙ ap is_eq e) ∙ seat_found)
      at Greater e rest =
          let lt : put_place_cmp c q ≡ Less = puts_placed.antisymm c q ∙ ap ordering_reverse e in
          absurd (reached (ap (λ t. cond t (Some q) (first_so (tied put_place_cmp puts_placed c) qs)) (ap is_eq lt) ∙ none_beyond q qs lt up.0))

-- ---- the places of puts

one_among : (x p : Put) (ps : List Put) → Among x (with_one put_place_cmp p ps) → Among x (p ∷ ps)
one_among x p [] h = h
one_among x p (q ∷ qs) h = at (put_place_cmp p q) h (one_among x p qs)
  where
    later : Among x (p ∷ qs) → Among x (p ∷ q ∷ qs)
    later (inl e) = inl e
    later (inr h) = inr (inr h)

    at : (r : Ordering) → Among x (match_ordering r (p ∷ q ∷ qs) (p ∷ qs) (q ∷ with_one put_place_cmp p qs)) → (Among x (with_one put_place_cmp p qs) → Among x (p ∷ qs)) → Among x (p ∷ q ∷ qs)
    at Less h rest = h
    at Equal h rest = later h
    at Greater (inl e) rest = inr (inl e)
    at Greater (inr h) rest = later (rest h)

pub place_among : (ps : List Put) (x : Put) → Among x (places ps) → Among x ps
place_among [] x h = h
place_among (p ∷ ps) x h = at (one_among x p (places ps) h) (place_among ps x)
  where
    at : Among x (p ∷ places ps) → (Among x (places ps) → Among x ps) → Among x (p ∷ ps)
    at (inl e) rest = inl e
    at (inr k) rest = inr (rest k)

pub place_reached : (ps : List Put) (c : Put) → Among c ps → first_so (tied put_place_cmp puts_placed c) ps ≡ None → ⊥
place_reached [] c h e = h
place_reached (p ∷ ps) c h e = at (tied put_place_cmp puts_placed c p) refl e h (place_reached ps c)
  where
    at : (b : Bool) → tied put_place_cmp puts_placed c p ≡ b → cond b (Some p) (first_so (tied put_place_cmp puts_placed c) ps) ≡ None → Among c (p ∷ ps)
        → (Among c ps → first_so (tied put_place_cmp puts_placed c) ps ≡ None → ⊥) → ⊥
    at true f g there rest = some_none p g
    at false f g (inl same) rest = true≢false (sym (ap is_eq (subst (λ q. put_place_cmp c q ≡ Equal) (sym same) (tied_itself puts_placed c))) ∙ f)
    at false f g (inr there) rest = rest there g

pub the_conflict : (ps : List Put) (c first second : Put) (clash : IsClash ps c) → least put_cmp (here ps c clash) ≡ Some first → least put_cmp (unlike ps c clash first) ≡ Some second
    → first_conflict (seats ps) ≡ Some (conflict_of first second)
the_conflict ps c first second clash f s =
    conflict_at ps c clash first second f s (places ps) (order_sorted put_place_cmp puts_placed ps) (place_among ps)
    (λ e. place_reached ps c clash.there (sym (first_of_order put_place_cmp puts_placed c ps) ∙ e))
