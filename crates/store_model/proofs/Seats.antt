-- Seats: the least of a list, and what a seat holds whatever the order of the puts.
use Rattle.std.proofs.Common.{◌≡◌, ℕ, Bool, true, false, true≢false, not, ◌&&◌, ◌||◌, cond, List, [], ◌∷◌, ◌++◌, Option, Some, None, Ordering, Less, Equal, Greater, is_eq, refl, sym, ap, ◌∙◌, subst, bytes_eq, inl, inr}
use Rattle.std.proofs.lemmas.Cmp.{lists_total, nat_list_cmp_total, tied_itself}
use Rattle.std.proofs.lemmas.Map.Text.{is_eq-slice_cmp}
use Rattle.std.proofs.lemmas.Slice.Eq.{bytes_eq-Decides}
use Rattle.std.specs.Cmp.{IsTotalOrder, nat_cmp_total}
use Rattle.std.specs.List.{list_any}
use Rattle.std.specs.Ordering.{is_lt, match_ordering, ordering_then, ordering_reverse}
use Rattle.store_record.specs.Equal.{field_eq}
use Rattle.store_model.proofs.Least.{Each, each_append, each_so, or_right}
use Rattle.store_model.proofs.Seated.{of_among, each_among}
use Rattle.store_model.specs.Alike.{Among}
use Rattle.store_model.specs.FactOrder.{text_cmp, fact_cmp}
use Rattle.store_model.specs.Says.{Put}
use Rattle.store_model.specs.Verdicts.{step_cmp, path_cmp, lesser_of, least, put_cmp, same_place, where_so, Seat, seat_of, seat_at, with_one, places, seats_at, seats, NotBefore, SecondIs, IsSeat, IsSaidOnce, HaveSameMembers}
use Rattle.store_model.specs.declared.payload_fault.PathStep.{PathStep}
use Rattle.store_model.specs.declared.payload_fault.PathStep.TheVariants.{Key, Index}

-- ---- paths are in a total order

no_greater : {A : Type 0} → Greater ≡ Less → A
no_greater e = absurd (subst (λ o. IsGreater o) e tt)
  where
    IsGreater : Ordering → Type 0
    IsGreater Less = ⊥
    IsGreater Equal = ⊥
    IsGreater Greater = Unit {0}

no_equal : {A : Type 0} (o : Ordering) → (o ≡ Equal) → o ≡ Less → A
no_equal o e f = absurd (subst (λ p. IsEqual p) (sym e ∙ f) tt)
  where
    IsEqual : Ordering → Type 0
    IsEqual Less = ⊥
    IsEqual Equal = Unit {0}
    IsEqual Greater = ⊥

not_tied : {A : Type 0} (o : Ordering) → (is_eq o ≡ false) → o ≡ Equal → A
not_tied o e f = absurd (true≢false (sym (ap is_eq f) ∙ e))

steps_total : IsTotalOrder step_cmp
steps_total = record { antisymm = turned; trans = onward; congr = alike }
  where
    turned : (x y : PathStep) → step_cmp x y ≡ ordering_reverse (step_cmp y x)
    turned (Key a) (Key b) = nat_list_cmp_total.antisymm a b
    turned (Key a) (Index j) = refl
    turned (Index i) (Key b) = refl
    turned (Index i) (Index j) = nat_cmp_total.antisymm i j

    onward : (x y z : PathStep) → step_cmp x y ≡ Less → step_cmp y z ≡ Less → step_cmp x z ≡ Less
    onward (Key a) (Key b) (Key c) e f = nat_list_cmp_total.trans a b c e f
    onward (Key a) (Key b) (Index k) e f = refl
    onward (Key a) (Index j) (Key c) e f = no_greater f
    onward (Key a) (Index j) (Index k) e f = refl
    onward (Index i) (Key b) z e f = no_greater e
    onward (Index i) (Index j) (Key c) e f = no_greater f
    onward (Index i) (Index j) (Index k) e f = nat_cmp_total.trans i j k e f

    alike : (x y z : PathStep) → step_cmp x y ≡ Equal → step_cmp x z ≡ step_cmp y z
    alike (Key a) (Key b) (Key c) e = nat_list_cmp_total.congr a b c e
    alike (Key a) (Key b) (Index k) e = refl
    alike (Key a) (Index j) z e = not_tied Less refl e
    alike (Index i) (Key b) z e = not_tied Greater refl e
    alike (Index i) (Index j) (Key c) e = refl
    alike (Index i) (Index j) (Index k) e = nat_cmp_total.congr i j k e

pub paths_total : IsTotalOrder path_cmp
paths_total = lists_total steps_total

pub puts_total : IsTotalOrder put_cmp
puts_total = record {
  antisymm = λ x y. paths_total.antisymm x.path y.path;
  trans = λ x y z. paths_total.trans x.path y.path z.path;
  congr = λ x y z. paths_total.congr x.path y.path z.path;
}

-- ---- the least of a list

module _ {A : Type 0} (cmp : A → A → Ordering) (o : IsTotalOrder cmp) where
  abbrev pub Not : A → A → Type 0
  Not x a = cmp x a ≡ Less → ⊥

  abbrev pub IsLeast : Option A → List A → Type 0
  IsLeast None xs = Each (λ x. ⊥) xs
  IsLeast (Some a) xs = Among a xs × Each (λ x. Not x a) xs

  not_itself : (a : A) → Not a a
  not_itself a e = no_equal (cmp a a) (tied_itself o a) e

  not_both : (a b : A) → cmp a b ≡ Less → Not b a
  not_both a b e f = no_greater (sym (ap ordering_reverse e) ∙ sym (o.antisymm b a) ∙ f)

  not_lt : (r : Ordering) → is_lt r ≡ false → r ≡ Less → ⊥
  not_lt r e f = true≢false (sym (ap is_lt f) ∙ e)

  is_less : (r : Ordering) → is_lt r ≡ true → r ≡ Less
  is_less Less e = refl
  is_less Equal e = absurd (true≢false (sym e))
  is_less Greater e = absurd (true≢false (sym e))

  -- what is not before the one is not before a lesser one
  not_before : (y a b : A) → Not y b → Not b a → Not y a
  not_before y a b f g e = at (cmp a b) refl
    where
      at : (r : Ordering) → cmp a b ≡ r → ⊥
      at Less h = f (o.trans y a b e h)
      at Equal h = f (o.antisymm y b ∙ ap ordering_reverse (sym (o.congr a b y h)) ∙ sym (o.antisymm y a) ∙ e)
      at Greater h = g (o.antisymm b a ∙ ap ordering_reverse h)

  least_is : (xs : List A) → IsLeast (least cmp xs) xs
  least_is [] = tt
  least_is (x ∷ xs) = at (least cmp xs) (least_is xs)
    where
      choose : (b : A) → Among b xs → Each (λ y. Not y b) xs → (c : Bool) → is_lt (cmp b x) ≡ c → IsLeast (Some (cond c b x)) (x ∷ xs)
      choose b there all true e = (inr there, (not_both b x (is_less (cmp b x) e), all))
      choose b there all false e = (inl refl, (not_itself x, each_so (λ y. Not y b) (λ y. Not y x) xs (λ y n. not_before y x b n (not_lt (cmp b x) e)) all))

      at : (r : Option A) → IsLeast r xs → IsLeast (Some (lesser_of cmp x r)) (x ∷ xs)
      at None none = (inl refl, (not_itself x, each_so (λ y. ⊥) (λ y. Not y x) xs (λ y n. absurd n) none))
      at (Some b) h = choose b h.0 h.1 (is_lt (cmp b x)) refl

  -- two that are not before one another tie
  pub tie : (a b : A) → Not a b → Not b a → cmp a b ≡ Equal
  tie a b f g = at (cmp a b) refl
    where
      at : (r : Ordering) → cmp a b ≡ r → cmp a b ≡ Equal
      at Less h = absurd (f h)
      at Equal h = h
      at Greater h = absurd (g (o.antisymm b a ∙ ap ordering_reverse h))

-- ---- members that pass a test

module _ {A : Type 0} (test : A → Bool) where
  pub among_where : (x : A) (xs : List A) → Among x (where_so test xs) → Among x xs × (test x ≡ true)
  among_where x [] h = absurd h
  among_where x (y ∷ ys) h = at (test y) refl h (among_where x ys)
    where
      at : (b : Bool) → test y ≡ b → Among x (cond b (y ∷ where_so test ys) (where_so test ys)) → (Among x (where_so test ys) → Among x ys × (test x ≡ true)) → Among x (y ∷ ys) × (test x ≡ true)
      at true e (inl same) rest = (inl same, subst (λ z. test z ≡ true) same e)
      at true e (inr there) rest = (inr (rest there).0, (rest there).1)
      at false e there rest = (inr (rest there).0, (rest there).1)

  pub where_among : (x : A) (xs : List A) → Among x xs → test x ≡ true → Among x (where_so test xs)
  where_among x [] h e = absurd h
  where_among x (y ∷ ys) h e = at (test y) refl h (λ there. where_among x ys there e)
    where
      at : (b : Bool) → test y ≡ b → Among x (y ∷ ys) → (Among x ys → Among x (where_so test ys)) → Among x (cond b (y ∷ where_so test ys) (where_so test ys))
      at true f (inl same) rest = inl same
      at true f (inr there) rest = inr (rest there)
      at false f (inl same) rest = absurd (true≢false (sym (subst (λ z. test z ≡ true) (sym same) e) ∙ f))
      at false f (inr there) rest = rest there

  each_where : (P : A → Type 0) (xs : List A) → Each P (where_so test xs) → Each (λ x. test x ≡ true → P x) xs
  each_where P xs h = each_among (λ x. test x ≡ true → P x) xs (λ x there e. of_among P x (where_so test xs) h (where_among x xs there e))

-- ---- one id and key

and_left : (a b : Bool) → (a && b) ≡ true → a ≡ true
and_left true b e = refl
and_left false b e = e

and_right : (a b : Bool) → (a && b) ≡ true → b ≡ true
and_right true b e = e
and_right false b e = absurd (true≢false (sym e))

-- puts of one place stand at the same places as others
place_as : (p f q : Put) → same_place p f ≡ true → same_place p q ≡ same_place f q
place_as p f q e =
    let ids = (bytes_eq-Decides p.fact.id f.fact.id).0 (and_left (bytes_eq p.fact.id f.fact.id) (bytes_eq p.fact.key f.fact.key) e) in
    let keys = (bytes_eq-Decides p.fact.key f.fact.key).0 (and_right (bytes_eq p.fact.id f.fact.id) (bytes_eq p.fact.key f.fact.key) e) in
    λ i. bytes_eq (ids i) q.fact.id && bytes_eq (keys i) q.fact.key

place_itself : (p : Put) → same_place p p ≡ true
place_itself p =
    ap (λ b. b && bytes_eq p.fact.key p.fact.key) ((bytes_eq-Decides p.fact.id p.fact.id).1 refl) ∙ (bytes_eq-Decides p.fact.key p.fact.key).1 refl

place_turned : (p q : Put) → same_place p q ≡ true → same_place q p ≡ true
place_turned p q e = sym (place_as p q p e) ∙ place_itself p

-- ---- each seat is right

not_false : (b : Bool) → not b ≡ true → b ≡ false
not_false true e = absurd (true≢false (sym e))
not_false false e = refl

not_true : (b : Bool) → b ≡ false → not b ≡ true
not_true true e = absurd (true≢false e)
not_true false e = refl

is_true : (b : Bool) → (not b ≡ true → ⊥) → b ≡ true
is_true true f = refl
is_true false f = absurd (f refl)

module _ (puts : List Put) (p : Put) where
  abbrev here : List Put
  here = where_so (same_place p) puts

  second_is : (f : Put) → same_place p f ≡ true → (r : Option Put) → IsLeast put_cmp puts_total r (where_so (λ q. not (field_eq q.fact.value f.fact.value)) here) → SecondIs puts f r
  second_is f place None none =
      each_so (λ q. same_place p q ≡ true → not (field_eq q.fact.value f.fact.value) ≡ true → ⊥) (λ q. same_place f q ≡ true → field_eq q.fact.value f.fact.value ≡ true) puts
      (λ q h e. is_true (field_eq q.fact.value f.fact.value) (h (place_as p f q place ∙ e)))
      (each_where (same_place p) (λ q. not (field_eq q.fact.value f.fact.value) ≡ true → ⊥) puts (each_where (λ q. not (field_eq q.fact.value f.fact.value)) (λ q. ⊥) here none))
  second_is f place (Some t) h =
      let in_here = among_where (λ q. not (field_eq q.fact.value f.fact.value)) t here h.0 in
      let in_puts = among_where (same_place p) t puts in_here.0 in
      record {
        there = in_puts.0;
        place = sym (place_as p f t place) ∙ in_puts.1;
        differs = not_false (field_eq t.fact.value f.fact.value) in_here.1;
        least = each_so (λ q. same_place p q ≡ true → not (field_eq q.fact.value f.fact.value) ≡ true → NotBefore q t) (λ q. same_place f q ≡ true → field_eq q.fact.value f.fact.value ≡ false → NotBefore q t) puts
            (λ q k e d. k (place_as p f q place ∙ e) (not_true (field_eq q.fact.value f.fact.value) d))
            (each_where (same_place p) (λ q. not (field_eq q.fact.value f.fact.value) ≡ true → NotBefore q t) puts (each_where (λ q. not (field_eq q.fact.value f.fact.value)) (λ q. NotBefore q t) here h.1));
      }

  seat_is : (r : Option Put) → IsLeast put_cmp puts_total r here → Each (IsSeat puts) (seat_of here r)
  seat_is None none = tt
  seat_is (Some f) h =
      let in_puts = among_where (same_place p) f puts h.0 in (
        record {
          there = in_puts.0;
          least = each_so (λ q. same_place p q ≡ true → NotBefore q f) (λ q. same_place f q ≡ true → NotBefore q f) puts (λ q k e. k (place_as p f q in_puts.1 ∙ e)) (each_where (same_place p) (λ q. NotBefore q f) puts h.1);
          second = second_is f in_puts.1 (least put_cmp (where_so (λ q. not (field_eq q.fact.value f.fact.value)) here)) (least_is put_cmp puts_total (where_so (λ q. not (field_eq q.fact.value f.fact.value)) here));
        },
        tt,
      )

each_seat : (puts ps : List Put) → Each (IsSeat puts) (seats_at puts ps)
each_seat puts [] = tt
each_seat puts (p ∷ ps) =
    each_append (IsSeat puts) (seat_at puts p) (seats_at puts ps) (seat_is puts p (least put_cmp (where_so (same_place p) puts)) (least_is put_cmp puts_total (where_so (same_place p) puts))) (each_seat puts ps)

pub seats_are : (puts : List Put) → Each (IsSeat puts) (seats puts)
seats_are puts = each_seat puts (places puts)

-- ---- another order of the puts gives the same seat

module _ (ps qs : List Put) (once : IsSaidOnce ps) (same : HaveSameMembers ps qs) where
  same_second : (f : Put) (r u : Option Put) → SecondIs ps f r → SecondIs qs f u → r ≡ u
  same_second f None None a b = refl
  same_second f None (Some u) a b = absurd (true≢false (sym (of_among (λ q. same_place f q ≡ true → field_eq q.fact.value f.fact.value ≡ true) u ps a (same.1 u b.there) b.place) ∙ b.differs))
  same_second f (Some r) None a b = absurd (true≢false (sym (of_among (λ q. same_place f q ≡ true → field_eq q.fact.value f.fact.value ≡ true) r qs b (same.0 r a.there) a.place) ∙ a.differs))
  same_second f (Some r) (Some u) a b =
      ap Some (once r u a.there (same.1 u b.there) (sym (place_as f r u a.place) ∙ b.place)
      (tie put_cmp puts_total r u
      (of_among (λ q. same_place f q ≡ true → field_eq q.fact.value f.fact.value ≡ false → NotBefore q u) r qs b.least (same.0 r a.there) a.place a.differs)
      (of_among (λ q. same_place f q ≡ true → field_eq q.fact.value f.fact.value ≡ false → NotBefore q r) u ps a.least (same.1 u b.there) b.place b.differs)))

  pub same_seat : (s t : Seat) → IsSeat ps s → IsSeat qs t → same_place s.first t.first ≡ true → s ≡ t
  same_seat s t a b place =
      let first : s.first ≡ t.first
      = once s.first t.first a.there (same.1 t.first b.there) place
      (tie put_cmp puts_total s.first t.first
      (of_among (λ q. same_place t.first q ≡ true → NotBefore q t.first) s.first qs b.least (same.0 s.first a.there) (place_turned s.first t.first place))
      (of_among (λ q. same_place s.first q ≡ true → NotBefore q s.first) t.first ps a.least (same.1 t.first b.there) place)) in
      let second = same_second t.first s.second t.second (subst (λ f. SecondIs ps f s.second) first a.second) b.second in
      λ i. record { first = first i; second = second i }

-- ---- each put has a seat

abbrev At : Put → List Put → Type 0
At p qs = list_any (λ q. same_place q p) qs ≡ true

text_tied : (a b : List ℕ) → text_cmp a b ≡ Equal → bytes_eq a b ≡ true
text_tied a b e = sym (is_eq-slice_cmp a b) ∙ ap is_eq e

tied_then : (a b : Ordering) → ordering_then a b ≡ Equal → (a ≡ Equal) × (b ≡ Equal)
tied_then Less b e = not_tied Less refl e
tied_then Equal b e = (refl, e)
tied_then Greater b e = not_tied Greater refl e

fact_tied : (p q : Put) → fact_cmp p.fact q.fact ≡ Equal → same_place p q ≡ true
fact_tied p q e =
    let both = tied_then (text_cmp p.fact.id q.fact.id) (text_cmp p.fact.key q.fact.key) e in
    ap (λ b. b && bytes_eq p.fact.key q.fact.key) (text_tied p.fact.id q.fact.id both.0) ∙ text_tied p.fact.key q.fact.key both.1

or_first : (a b : Bool) → a ≡ true → (a || b) ≡ true
or_first true b e = refl
or_first false b e = absurd (true≢false (sym e))

or_split : (P : Type 0) (a b : Bool) → (a ≡ true → P) → (b ≡ true → P) → (a || b) ≡ true → P
or_split P true b f g e = f refl
or_split P false b f g e = g e

abbrev by_fact : Put → Put → Ordering
by_fact p q = fact_cmp p.fact q.fact

new_at : (p : Put) (qs : List Put) → At p (with_one by_fact p qs)
new_at p [] = or_first (same_place p p) false (place_itself p)
new_at p (q ∷ qs) = at (by_fact p q) (new_at p qs)
  where
    at : (r : Ordering) → At p (with_one by_fact p qs) → At p (match_ordering r (p ∷ q ∷ qs) (p ∷ qs) (q ∷ with_one by_fact p qs))
    at Less rest = or_first (same_place p p) (list_any (λ x. same_place x p) (q ∷ qs)) (place_itself p)
    at Equal rest = or_first (same_place p p) (list_any (λ x. same_place x p) qs) (place_itself p)
    at Greater rest = or_right (same_place q p) (list_any (λ x. same_place x p) (with_one by_fact p qs)) rest

still_at : (x p : Put) (qs : List Put) → At x qs → At x (with_one by_fact p qs)
still_at x p [] h = absurd (true≢false (sym h))
still_at x p (q ∷ qs) h = at (by_fact p q) refl (still_at x p qs)
  where
    at : (r : Ordering) → by_fact p q ≡ r → (At x qs → At x (with_one by_fact p qs)) → At x (match_ordering r (p ∷ q ∷ qs) (p ∷ qs) (q ∷ with_one by_fact p qs))
    at Less e rest = or_right (same_place p x) (list_any (λ y. same_place y x) (q ∷ qs)) h
    at Equal e rest =
        or_split (At x (p ∷ qs)) (same_place q x) (list_any (λ y. same_place y x) qs)
        (λ k. or_first (same_place p x) (list_any (λ y. same_place y x) qs) (place_as p q x (fact_tied p q e) ∙ k))
        (λ k. or_right (same_place p x) (list_any (λ y. same_place y x) qs) k) h
    at Greater e rest =
        or_split (At x (q ∷ with_one by_fact p qs)) (same_place q x) (list_any (λ y. same_place y x) qs)
        (λ k. or_first (same_place q x) (list_any (λ y. same_place y x) (with_one by_fact p qs)) k)
        (λ k. or_right (same_place q x) (list_any (λ y. same_place y x) (with_one by_fact p qs)) (rest k)) h

all_at : (x : Put) (ps : List Put) → Among x ps → At x (places ps)
all_at x [] h = absurd h
all_at x (p ∷ ps) (inl e) = subst (λ y. At y (places (p ∷ ps))) e (new_at p (places ps))
all_at x (p ∷ ps) (inr h) = still_at x p (places ps) (all_at x ps h)

abbrev SeatAt : Put → List Seat → Type 0
SeatAt p ss = list_any (λ s. same_place s.first p) ss ≡ true

seat_left : (p : Put) (ss ts : List Seat) → SeatAt p ss → SeatAt p (ss ++ ts)
seat_left p [] ts h = absurd (true≢false (sym h))
seat_left p (s ∷ ss) ts h =
    or_split (SeatAt p (s ∷ ss ++ ts)) (same_place s.first p) (list_any (λ t. same_place t.first p) ss)
    (λ k. or_first (same_place s.first p) (list_any (λ t. same_place t.first p) (ss ++ ts)) k)
    (λ k. or_right (same_place s.first p) (list_any (λ t. same_place t.first p) (ss ++ ts)) (seat_left p ss ts k)) h

seat_right : (p : Put) (ss ts : List Seat) → SeatAt p ts → SeatAt p (ss ++ ts)
seat_right p [] ts h = h
seat_right p (s ∷ ss) ts h = or_right (same_place s.first p) (list_any (λ t. same_place t.first p) (ss ++ ts)) (seat_right p ss ts h)

-- a put of the place of p has the seat of p
one_seat : (puts : List Put) (x p : Put) → Among x puts → same_place p x ≡ true → SeatAt x (seat_at puts p)
one_seat puts x p there place = at (least put_cmp here) (least_is put_cmp puts_total here)
  where
    here : List Put
    here = where_so (same_place p) puts

    at : (r : Option Put) → IsLeast put_cmp puts_total r (where_so (same_place p) puts) → SeatAt x (seat_of (where_so (same_place p) puts) r)
    at None none = absurd (of_among (λ y. ⊥) x (where_so (same_place p) puts) none (where_among (same_place p) x puts there place))
    at (Some f) h =
        or_first (same_place f x) false (sym (place_as p f x (among_where (same_place p) f puts h.0).1) ∙ place)

seat_for : (puts : List Put) (x : Put) → Among x puts → (ps : List Put) → At x ps → SeatAt x (seats_at puts ps)
seat_for puts x there [] h = absurd (true≢false (sym h))
seat_for puts x there (p ∷ ps) h =
    or_split (SeatAt x (seats_at puts (p ∷ ps))) (same_place p x) (list_any (λ q. same_place q x) ps)
    (λ k. seat_left x (seat_at puts p) (seats_at puts ps) (one_seat puts x p there k))
    (λ k. seat_right x (seat_at puts p) (seats_at puts ps) (seat_for puts x there ps k)) h

pub each_has_a_seat : (puts : List Put) (p : Put) → Among p puts → SeatAt p (seats puts)
each_has_a_seat puts p there = seat_for puts p there (places puts) (all_at p puts there)
