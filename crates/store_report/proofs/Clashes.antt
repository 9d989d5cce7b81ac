-- Of puts that rise by id and key, the first that clashes with the one before it; and what holds where none does.
use Rattle.std.proofs.Common.{◌≡◌, ℕ, zero, suc, ◌<◌, ◌≤◌, Bool, true, false, true≢false, not, ◌&&◌, cond, List, [], ◌∷◌, length, map, get_or, Option, Some, None, Ordering, Less, Equal, Greater, is_eq, refl, sym, ap, ◌∙◌, subst, bytes_eq, inl, inr, arith}
use Rattle.std.proofs.lemmas.Cmp.{on_total, tied_itself}
use Rattle.std.proofs.lemmas.List.MinMax.{ranks_by}
use Rattle.std.proofs.lemmas.List.Sorted.{sorted_far}
use Rattle.std.proofs.lemmas.Map.Text.{is_eq-slice_cmp}
use Rattle.std.proofs.lemmas.Slice.Eq.{bytes_eq-Decides}
use Rattle.std.specs.Cmp.{IsTotalOrder}
use Rattle.std.specs.List.{AllByRecursion}
use Rattle.std.specs.List.Sorted.{IsSorted}
use Rattle.std.specs.Ordering.{is_lt, ordering_then, ordering_reverse}
use Rattle.store_model.specs.store_record.Equal.{field_eq, field_eq-Decides}
use Rattle.store_model.specs.store_record.declared.field.Field.{Field}
use Rattle.store_model.proofs.Seated.{of_among}
use Rattle.store_model.specs.Alike.{Among}
use Rattle.store_model.specs.FactOrder.{text_cmp}
use Rattle.store_model.specs.Says.{Put}
use Rattle.store_model.specs.Verdicts.{same_place}
use Rattle.store_report.proofs.Orders.{facts_total}
use Rattle.store_report.specs.SaidFacts.{put_place_cmp, clashes, clash_from}

pub puts_placed : IsTotalOrder put_place_cmp
puts_placed = on_total (λ (p : Put). p.fact) facts_total

-- ---- one place

then_eq : (o p : Ordering) → is_eq (ordering_then o p) ≡ (is_eq o && is_eq p)
then_eq Less p = refl
then_eq Equal p = refl
then_eq Greater p = refl

pub place_tied : (p q : Put) → same_place p q ≡ is_eq (put_place_cmp p q)
place_tied p q =
    (λ i. sym (is_eq-slice_cmp p.fact.id q.fact.id) i && sym (is_eq-slice_cmp p.fact.key q.fact.key) i)
    ∙ sym (then_eq (text_cmp p.fact.id q.fact.id) (text_cmp p.fact.key q.fact.key))

pub is_tie : (r : Ordering) → is_eq r ≡ true → r ≡ Equal
is_tie Less e = absurd (true≢false (sym e))
is_tie Equal e = refl
is_tie Greater e = absurd (true≢false (sym e))

pub place_equal : (p q : Put) → same_place p q ≡ true → put_place_cmp p q ≡ Equal
place_equal p q e = is_tie (put_place_cmp p q) (sym (place_tied p q) ∙ e)

pub place_itself : (p : Put) → same_place p p ≡ true
place_itself p = place_tied p p ∙ ap is_eq (tied_itself puts_placed p)

pub place_as : (p q r : Put) → same_place p q ≡ true → same_place p r ≡ same_place q r
place_as p q r e = place_tied p r ∙ ap is_eq (puts_placed.congr p q r (place_equal p q e)) ∙ sym (place_tied q r)

pub place_turned : (p q : Put) → same_place p q ≡ true → same_place q p ≡ true
place_turned p q e = sym (place_as p q p e) ∙ place_itself p

pub and_left : (a b : Bool) → (a && b) ≡ true → a ≡ true
and_left true b e = refl
and_left false b e = e

pub and_right : (a b : Bool) → (a && b) ≡ true → b ≡ true
and_right true b e = e
and_right false b e = absurd (true≢false (sym e))

pub not_true : (b : Bool) → not b ≡ true → b ≡ false
not_true true e = absurd (true≢false (sym e))
not_true false e = refl

-- of one place and with one value, two facts are one
pub same_fact : (p q : Put) → same_place p q ≡ true → p.fact.value ≡ q.fact.value → p.fact ≡ q.fact
same_fact p q e v =
    let ids = (bytes_eq-Decides p.fact.id q.fact.id).0 (and_left (bytes_eq p.fact.id q.fact.id) (bytes_eq p.fact.key q.fact.key) e) in
    let keys = (bytes_eq-Decides p.fact.key q.fact.key).0 (and_right (bytes_eq p.fact.id q.fact.id) (bytes_eq p.fact.key q.fact.key) e) in
    λ i. record { id = ids i; key = keys i; value = v i }

pub unequal_turned : (a b : Field) → field_eq a b ≡ false → field_eq b a ≡ false
unequal_turned a b e = at (field_eq b a) refl
  where
    at : (t : Bool) → field_eq b a ≡ t → field_eq b a ≡ false
    at true f = absurd (true≢false (sym ((field_eq-Decides a b).1 (sym ((field_eq-Decides b a).0 f))) ∙ e))
    at false f = f

-- ---- lists that rise

abbrev pub Rising : {A : Type 0} → (A → A → Ordering) → List A → Type 0
Rising cmp [] = Unit {0}
Rising cmp (x ∷ xs) = AllByRecursion (λ y. is_lt (cmp y x) ≡ false) xs × Rising cmp xs

each_at : {A : Type 0} (P : A → Type 0) (xs : List A) → ((j : ℕ) (d : A) → j < length xs → P (get_or xs j d)) → AllByRecursion P xs
each_at P [] f = tt
each_at P (x ∷ xs) f = (f zero x (omega arith), each_at P xs (λ j d lt. f (suc j) d (omega (arith, lt))))

module _ {A : Type 0} (cmp : A → A → Ordering) (o : IsTotalOrder cmp) where
  from_pairs : (xs : List A) → ((i j : ℕ) (d : A) → i ≤ j → j < length xs → is_lt (cmp (get_or xs j d) (get_or xs i d)) ≡ false) → Rising cmp xs
  from_pairs [] h = tt
  from_pairs (x ∷ xs) h =
      (each_at (λ y. is_lt (cmp y x) ≡ false) xs (λ j d lt. h zero (suc j) d (omega arith) (omega (arith, lt))), from_pairs xs (λ i j d le lt. h (suc i) (suc j) d (omega (arith, le)) (omega (arith, lt))))

  pub rises : (xs : List A) → IsSorted cmp xs → Rising cmp xs
  rises xs up = from_pairs xs (sorted_far (λ x y. is_lt (cmp x y)) (ranks_by o (λ (x : A). x)) xs up)

  -- what lies between two that tie is tied with them
  pub between : (x z y : A) → is_lt (cmp z x) ≡ false → is_lt (cmp y z) ≡ false → cmp x y ≡ Equal → cmp x z ≡ Equal
  between x z y e f tie = at (cmp x z) refl
    where
      at : (r : Ordering) → cmp x z ≡ r → cmp x z ≡ Equal
      at Less h = absurd (true≢false (sym (ap is_lt (sym (o.congr x y z tie) ∙ h)) ∙ f))
      at Equal h = h
      at Greater h = absurd (true≢false (sym (ap is_lt (o.antisymm z x ∙ ap ordering_reverse h)) ∙ e))

pub rising_map : {A B : Type 0} (f : A → B) (cmp : B → B → Ordering) (xs : List A) → Rising (λ x y. cmp (f x) (f y)) xs → Rising cmp (map f xs)
rising_map {A} {B} f cmp [] up = tt
rising_map {A} {B} f cmp (x ∷ xs) up = (each_map xs up.0, rising_map f cmp xs up.1)
  where
    each_map : (ys : List A) → AllByRecursion (λ y. is_lt (cmp (f y) (f x)) ≡ false) ys → AllByRecursion (λ z. is_lt (cmp z (f x)) ≡ false) (map f ys)
    each_map [] all = tt
    each_map (y ∷ ys) all = (all.0, each_map ys all.1)

-- ---- where no put clashes

abbrev pub Agree : Put → Put → Type 0
Agree p q = same_place p q ≡ true → p.fact.value ≡ q.fact.value

abbrev pub AllAgree : List Put → Type 0
AllAgree ps = (p q : Put) → Among p ps → Among q ps → Agree p q

no_some : {A B : Type 0} (a : A) → Some a ≡ None → B
no_some {A} a e = absurd (subst IsThere e tt)
  where
    IsThere : Option A → Type 0
    IsThere None = ⊥
    IsThere (Some x) = Unit {0}

-- one that does not clash with the put before it has its value
no_clash : (x z : Put) → clashes (Some x) z ≡ false → Agree x z
no_clash x z e place =
    sym ((field_eq-Decides z.fact.value x.fact.value).0 (at (field_eq z.fact.value x.fact.value) (sym (ap (λ b. b && not (field_eq z.fact.value x.fact.value)) place) ∙ e)))
  where
    at : (t : Bool) → not t ≡ false → t ≡ true
    at true f = refl
    at false f = absurd (true≢false f)

-- those of the place of the first are beside it
near : (x z : Put) (zs : List Put) → Rising put_place_cmp (x ∷ z ∷ zs) → (q : Put) → Among q (z ∷ zs) → same_place x q ≡ true → same_place x z ≡ true
near x z zs up q (inl e) place = subst (λ r. same_place x r ≡ true) (sym e) place
near x z zs up q (inr there) place =
    place_tied x z ∙ ap is_eq (between put_place_cmp puts_placed x z q up.0.0 (of_among (λ y. is_lt (put_place_cmp y z) ≡ false) q zs up.1.0 there) (place_equal x q place))

first_agrees : (x : Put) (xs : List Put) → Rising put_place_cmp (x ∷ xs) → clash_from (Some x) xs ≡ None → (q : Put) → Among q xs → Agree x q
first_agrees x [] up e q there place = absurd there
first_agrees x (z ∷ zs) up e q there place = at (clashes (Some x) z) refl e (λ rest. first_agrees z zs up.1 rest q)
  where
    tail : Among q (z ∷ zs) → (Among q zs → Agree z q) → same_place z q ≡ true → z.fact.value ≡ q.fact.value
    tail (inl f) rest p = ap (λ r. r.fact.value) f
    tail (inr h) rest p = rest h p

    at : (b : Bool) → clashes (Some x) z ≡ b → cond b (Some z) (clash_from (Some z) zs) ≡ None → (clash_from (Some z) zs ≡ None → Among q zs → Agree z q) → x.fact.value ≡ q.fact.value
    at true f g rest = no_some z g
    at false f g rest =
        let beside = near x z zs up q there place in
        no_clash x z f beside ∙ tail there (rest g) (sym (place_as x z q beside) ∙ place)

rest_clear : (x z : Put) (zs : List Put) → clash_from (Some x) (z ∷ zs) ≡ None → clash_from (Some z) zs ≡ None
rest_clear x z zs e = at (clashes (Some x) z) e
  where
    at : (b : Bool) → cond b (Some z) (clash_from (Some z) zs) ≡ None → clash_from (Some z) zs ≡ None
    at true g = no_some z g
    at false g = g

agree_from : (x : Put) (xs : List Put) → Rising put_place_cmp (x ∷ xs) → clash_from (Some x) xs ≡ None → AllAgree (x ∷ xs)
agree_from x [] up e p q (inl f) (inl g) place = ap (λ r. r.fact.value) (sym f ∙ g)
agree_from x [] up e p q (inl f) (inr h) place = absurd h
agree_from x [] up e p q (inr h) there place = absurd h
agree_from x (z ∷ zs) up e p q (inl f) (inl g) place = ap (λ r. r.fact.value) (sym f ∙ g)
agree_from x (z ∷ zs) up e p q (inl f) (inr h) place =
    subst (λ r. Agree r q) f (first_agrees x (z ∷ zs) up e q h) place
agree_from x (z ∷ zs) up e p q (inr h) (inl g) place =
    sym (subst (λ r. Agree r p) g (first_agrees x (z ∷ zs) up e p h) (place_turned p q place))
agree_from x (z ∷ zs) up e p q (inr h) (inr k) place = agree_from z zs up.1 (rest_clear x z zs e) p q h k place

pub all_agree : (xs : List Put) → Rising put_place_cmp xs → clash_from None xs ≡ None → AllAgree xs
all_agree [] up e = λ p q h k place. absurd h
all_agree (x ∷ xs) up e = agree_from x xs up e

-- ---- where one clashes

-- another put is of the place of the one, with another value, and all of lesser places agree
pub record IsClash (ps : List Put) (c : Put) : Type 0 where
  pub there : Among c ps
  pub other : Put
  pub other_there : Among other ps
  pub beside : same_place c other ≡ true
  pub differs : field_eq other.fact.value c.fact.value ≡ false
  pub before : (p q : Put) → Among p ps → Among q ps → is_lt (put_place_cmp p c) ≡ true → Agree p q

not_less : (c x p : Put) → same_place x c ≡ true → is_lt (put_place_cmp p x) ≡ false → is_lt (put_place_cmp p c) ≡ true → ⊥
not_less c x p place e lt =
    let tie : put_place_cmp x c ≡ Equal = place_equal x c place in
    let turned : put_place_cmp p x ≡ put_place_cmp p c
    = puts_placed.antisymm p x ∙ ap ordering_reverse (puts_placed.congr x c p tie) ∙ sym (puts_placed.antisymm p c) in
    true≢false (sym lt ∙ sym (ap is_lt turned) ∙ e)

clash_after : (x : Put) (xs : List Put) → Rising put_place_cmp (x ∷ xs) → (c : Put) → clash_from (Some x) xs ≡ Some c → IsClash (x ∷ xs) c
clash_after x [] up c e = no_some c (sym e)
clash_after x (z ∷ zs) up c e = at (clashes (Some x) z) refl e (λ rest. clash_after z zs up.1 c rest)
  where
    unsome : Some z ≡ Some c → z ≡ c
    unsome f = ap (λ o. got o) f
      where
        got : Option Put → Put
        got None = z
        got (Some p) = p

    here : clashes (Some x) z ≡ true → z ≡ c → IsClash (x ∷ z ∷ zs) c
    here f g =
        let place : same_place x z ≡ true = and_left (same_place x z) (not (field_eq z.fact.value x.fact.value)) f in
        let differs : field_eq z.fact.value x.fact.value ≡ false = not_true (field_eq z.fact.value x.fact.value) (and_right (same_place x z) (not (field_eq z.fact.value x.fact.value)) f) in
        subst (IsClash (x ∷ z ∷ zs)) g (record {
          there = inr (inl refl);
          other = x;
          other_there = inl refl;
          beside = place_turned x z place;
          differs = unequal_turned z.fact.value x.fact.value differs;
          before = λ p q h k lt. absurd (not_less z x p place (least_first p h) lt);
        })
      where
        least_first : (p : Put) → Among p (x ∷ z ∷ zs) → is_lt (put_place_cmp p x) ≡ false
        least_first p (inl i) = ap is_lt (subst (λ r. put_place_cmp r x ≡ Equal) i (tied_itself puts_placed x))
        least_first p (inr h) = of_among (λ y. is_lt (put_place_cmp y x) ≡ false) p (z ∷ zs) up.0 h

    later : clashes (Some x) z ≡ false → IsClash (z ∷ zs) c → IsClash (x ∷ z ∷ zs) c
    later f r = record {
      there = inr r.there;
      other = r.other;
      other_there = inr r.other_there;
      beside = r.beside;
      differs = r.differs;
      before = before;
    }
      where
        with_first : (q : Put) → Among q (z ∷ zs) → is_lt (put_place_cmp x c) ≡ true → Agree x q
        with_first q k lt place =
            let beside = near x z zs up q k place in
            no_clash x z f beside
            ∙ r.before z q (inl refl) k (ap is_lt (sym (puts_placed.congr x z c (place_equal x z beside))) ∙ lt) (sym (place_as x z q beside) ∙ place)

        before : (p q : Put) → Among p (x ∷ z ∷ zs) → Among q (x ∷ z ∷ zs) → is_lt (put_place_cmp p c) ≡ true → Agree p q
        before p q (inl g) (inl h) lt place = ap (λ s. s.fact.value) (sym g ∙ h)
        before p q (inl g) (inr k) lt place =
            subst (λ s. is_lt (put_place_cmp s c) ≡ true → Agree s q) g (with_first q k) lt place
        before p q (inr h) (inl g) lt place =
            let lt_first : is_lt (put_place_cmp q c) ≡ true = ap is_lt (sym (puts_placed.congr p q c (place_equal p q place))) ∙ lt in
            sym (subst (λ s. is_lt (put_place_cmp s c) ≡ true → Agree s p) g (with_first p h) lt_first (place_turned p q place))
        before p q (inr h) (inr k) lt place = r.before p q h k lt place

    at : (b : Bool) → clashes (Some x) z ≡ b → cond b (Some z) (clash_from (Some z) zs) ≡ Some c → (clash_from (Some z) zs ≡ Some c → IsClash (z ∷ zs) c) → IsClash (x ∷ z ∷ zs) c
    at true f g rest = here f (unsome g)
    at false f g rest = later f (rest g)

pub clash_is : (xs : List Put) → Rising put_place_cmp xs → (c : Put) → clash_from None xs ≡ Some c → IsClash xs c
clash_is [] up c e = no_some c (sym e)
clash_is (x ∷ xs) up c e = clash_after x xs up c e
