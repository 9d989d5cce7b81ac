-- The pairs of a tree are those of its paths.
use Rattle.std.proofs.Common.{◌≡◌, Bool, true, false, cond, ◌&&◌, ◌||◌, List, [], ◌∷◌, ◌++◌, map, Option, Some, None, bytes_eq, refl, ap, sym, ◌∙◌}
use Rattle.std.specs.List.{filter, list_any}
use Rattle.doc_merge.proofs.Anys.{any-append, any-map, any_and, any_none, any_or, any_same, and_assoc, filter_any, or_assoc, or_false}
use Rattle.doc_merge.specs.Merging.{Field, Fields, against, crossing, differ, differences, field, meet, no_fields}
use Rattle.doc_merge.specs.Paths.{Path, conflict, faulty, here, paths, place_of, under}
use Rattle.doc_merge.specs.Places.{wrong}
use Rattle.plan_ir.specs.gql_ast.declared.place.FilePlace.{FilePlace}
use Rattle.plan_ir.proofs.gql_graph_laws.TextSteps.{same_self}
use Rattle.plan_ir.specs.schema_tables.Types.{Text}

abbrev hits : Bool → (FilePlace → Bool) → Path → List Path → Bool
hits m p x ys = list_any (λ y. conflict m x y && p (place_of y)) ys

abbrev any_cross : Bool → (FilePlace → Bool) → List Path → List Path → Bool
any_cross m p xs ys = list_any (λ x. hits m p x ys) xs

-- a field itself against a later field, those below it and those behind it
here_hits : (m : Bool) (p : FilePlace → Bool) (a b : Field) (bs ns : List Path) → hits m p (here a) (here b ∷ (map (under b) bs ++ ns)) ≡ ((conflict m (here a) (here b) && p b.place) || hits m p (here a) ns)
here_hits m p a b bs ns = ap (λ c. (conflict m (here a) (here b) && p b.place) || c)
    (any-append (λ y. conflict m (here a) y && p (place_of y)) (map (under b) bs) ns
    ∙ ap (λ c. c || hits m p (here a) ns) (any-map (under b) (λ y. conflict m (here a) y && p (place_of y)) bs ∙ any_none (λ t. false) (λ t. refl) bs))

-- one below it against a later field, those below that and those behind it
under_hits : (m : Bool) (p : FilePlace → Bool) (a b : Field) (s : Path) (bs ns : List Path)
    → hits m p (under a s) (here b ∷ (map (under b) bs ++ ns)) ≡ ((bytes_eq a.key b.key && hits (m && meet a.parent b.parent) p s bs) || hits m p (under a s) ns)
under_hits m p a b s bs ns =
    any-append (λ y. conflict m (under a s) y && p (place_of y)) (map (under b) bs) ns
    ∙ ap (λ c. c || hits m p (under a s) ns)
    (any-map (under b) (λ y. conflict m (under a s) y && p (place_of y)) bs
    ∙ any_same (λ t. (bytes_eq a.key b.key && conflict (m && meet a.parent b.parent) s t) && p (place_of t)) (λ t. bytes_eq a.key b.key && (conflict (m && meet a.parent b.parent) s t && p (place_of t)))
    (λ t. and_assoc (bytes_eq a.key b.key) (conflict (m && meet a.parent b.parent) s t) (p (place_of t))) bs
    ∙ any_and (bytes_eq a.key b.key) (λ t. conflict (m && meet a.parent b.parent) s t && p (place_of t)) bs)

all_under : (m : Bool) (p : FilePlace → Bool) (a b : Field) (fs bs ns : List Path)
    → list_any (λ x. hits m p x (here b ∷ (map (under b) bs ++ ns))) (map (under a) fs)
    ≡ ((bytes_eq a.key b.key && any_cross (m && meet a.parent b.parent) p fs bs) || list_any (λ x. hits m p x ns) (map (under a) fs))
all_under m p a b fs bs ns =
    any-map (under a) (λ x. hits m p x (here b ∷ (map (under b) bs ++ ns))) fs
    ∙ any_same (λ s. hits m p (under a s) (here b ∷ (map (under b) bs ++ ns))) (λ s. (bytes_eq a.key b.key && hits (m && meet a.parent b.parent) p s bs) || hits m p (under a s) ns) (λ s. under_hits m p a b s bs ns) fs
    ∙ any_or (λ s. bytes_eq a.key b.key && hits (m && meet a.parent b.parent) p s bs) (λ s. hits m p (under a s) ns) fs
    ∙ (λ k. any_and (bytes_eq a.key b.key) (λ s. hits (m && meet a.parent b.parent) p s bs) fs k || sym (any-map (under a) (λ x. hits m p x ns) fs) k)

wrong_any : (p : FilePlace → Bool) (b : Bool) (n : FilePlace) → list_any p (wrong b n) ≡ (b && p n)
wrong_any p true n = or_false (p n)
wrong_any p false n = refl

-- the parts of one step
step : (p : FilePlace → Bool) (k d q x h u : Bool) (w ins rest : List FilePlace) → list_any p w ≡ (d && q) → list_any p ins ≡ x → list_any p rest ≡ (h || u)
    → list_any p (cond k (w ++ ins) [] ++ rest) ≡ ((((k && d) && q) || h) || ((k && x) || u))
step p true d q x h u w ins rest e f g = any-append p (w ++ ins) rest ∙ (λ i. (any-append p w ins ∙ (λ j. e j || f j)) i || g i) ∙ four (d && q) x h u where
  four : (a b c e : Bool) → ((a || b) || (c || e)) ≡ ((a || c) || (b || e))
  four true b c e = refl
  four false true true e = refl
  four false true false e = refl
  four false false c e = refl
step p false d q x h u w ins rest e f g = g

against_is : (p : FilePlace → Bool) (m : Bool) (a : Field) (inner : Bool → Fields → List FilePlace) (fs : List Path)
    → ((n : Bool) (cs : Fields) → list_any p (inner n cs) ≡ any_cross n p fs (paths cs))
    → (bs : Fields) → list_any p (against m a inner bs) ≡ any_cross m p (here a ∷ map (under a) fs) (paths bs)
against_is p m a inner fs h no_fields = sym (any_none (λ x. false) (λ x. refl) (map (under a) fs))
against_is p m a inner fs h (field b below next) =
    step p (bytes_eq a.key b.key) (differ (m && meet a.parent b.parent) a b) (p b.place) (any_cross (m && meet a.parent b.parent) p fs (paths below))
    (hits m p (here a) (paths next)) (list_any (λ x. hits m p x (paths next)) (map (under a) fs))
    (wrong (differ (m && meet a.parent b.parent) a b) b.place) (inner (m && meet a.parent b.parent) below) (against m a inner next)
    (wrong_any p (differ (m && meet a.parent b.parent) a b) b.place) (h (m && meet a.parent b.parent) below) (against_is p m a inner fs h next)
    ∙ (λ k. sym (here_hits m p a b (paths below) (paths next)) k || sym (all_under m p a b fs (paths below) (paths next)) k)

pub crossing_is : (p : FilePlace → Bool) (xs : Fields) (m : Bool) (bs : Fields) → list_any p (crossing m xs bs) ≡ any_cross m p (paths xs) (paths bs)
crossing_is p no_fields m bs = refl
crossing_is p (field a below next) m bs =
    any-append p (against m a (λ (n : Bool) (cs : Fields). crossing n below cs) bs) (crossing m next bs)
    ∙ (λ k. against_is p m a (λ (n : Bool) (cs : Fields). crossing n below cs) (paths below) (λ n cs. crossing_is p below n cs) bs k || crossing_is p next m bs k)
    ∙ or_assoc (hits m p (here a) (paths bs)) (list_any (λ x. hits m p x (paths bs)) (map (under a) (paths below))) (any_cross m p (paths next) (paths bs))
    ∙ ap (λ c. hits m p (here a) (paths bs) || c) (sym (any-append (λ x. hits m p x (paths bs)) (map (under a) (paths below)) (paths next)))

-- ---- the whole

abbrev flat : (FilePlace → Bool) → List Path → Bool
flat p xs = list_any (λ x. p (place_of x)) (faulty (conflict true) xs)

flat-append : (p : FilePlace → Bool) (xs ys : List Path) → flat p (xs ++ ys) ≡ (flat p xs || (any_cross true p xs ys || flat p ys))
flat-append p [] ys = refl
flat-append p (x ∷ xs) ys =
    any-append (λ z. p (place_of z)) (filter (conflict true x) (xs ++ ys)) (faulty (conflict true) (xs ++ ys))
    ∙ (λ k. (filter_any (λ z. p (place_of z)) (conflict true x) (xs ++ ys) ∙ any-append (λ y. conflict true x y && p (place_of y)) xs ys) k || flat-append p xs ys k)
    ∙ six (hits true p x xs) (hits true p x ys) (flat p xs) (any_cross true p xs ys) (flat p ys)
    ∙ ap (λ b. b || ((hits true p x ys || any_cross true p xs ys) || flat p ys))
    (ap (λ b. b || flat p xs) (sym (filter_any (λ z. p (place_of z)) (conflict true x) xs)) ∙ sym (any-append (λ z. p (place_of z)) (filter (conflict true x) xs) (faulty (conflict true) xs))) where
      six : (a b c d e : Bool) → ((a || b) || (c || (d || e))) ≡ ((a || c) || ((b || d) || e))
      six true b c d e = refl
      six false true true d e = refl
      six false true false d e = refl
      six false false c d e = refl

meet_same : (o : Option Text) → meet o o ≡ true
meet_same None = refl
meet_same (Some n) = same_self n

same_under : (a : Field) (s t : Path) → conflict true (under a s) (under a t) ≡ conflict true s t
same_under a s t = λ k. same_self a.key k && conflict (meet_same a.parent k) s t

flat-under : (p : FilePlace → Bool) (a : Field) (xs : List Path) → flat p (map (under a) xs) ≡ flat p xs
flat-under p a [] = refl
flat-under p a (x ∷ xs) =
    any-append (λ z. p (place_of z)) (filter (conflict true (under a x)) (map (under a) xs)) (faulty (conflict true) (map (under a) xs))
    ∙ (λ k. (filter_any (λ z. p (place_of z)) (conflict true (under a x)) (map (under a) xs)
    ∙ any-map (under a) (λ y. conflict true (under a x) y && p (place_of y)) xs
    ∙ any_same (λ y. conflict true (under a x) (under a y) && p (place_of y)) (λ y. conflict true x y && p (place_of y)) (λ y. ap (λ b. b && p (place_of y)) (same_under a x y)) xs
    ∙ sym (filter_any (λ z. p (place_of z)) (conflict true x) xs)) k || flat-under p a xs k)
    ∙ sym (any-append (λ z. p (place_of z)) (filter (conflict true x) xs) (faulty (conflict true) xs))

pub differences_are : (p : FilePlace → Bool) (fs : Fields) → list_any p (differences fs) ≡ flat p (paths fs)
differences_are p no_fields = refl
differences_are p (field a below next) =
    let inner : Bool → Fields → List FilePlace = λ (n : Bool) (cs : Fields). crossing n below cs in
    any-append p (differences below ++ against true a inner next) (differences next)
    ∙ (λ k. (any-append p (differences below) (against true a inner next) ∙ (λ j. differences_are p below j || against_is p true a inner (paths below) (λ n cs. crossing_is p below n cs) next j)) k || differences_are p next k)
    ∙ four (flat p (paths below)) (hits true p (here a) (paths next)) (list_any (λ x. hits true p x (paths next)) (map (under a) (paths below))) (flat p (paths next))
    ∙ (λ k. sym (first_hits) k || sym (flat-append p (map (under a) (paths below)) (paths next) ∙ ap (λ b. b || (any_cross true p (map (under a) (paths below)) (paths next) || flat p (paths next))) (flat-under p a (paths below))) k)
    ∙ sym (any-append (λ z. p (place_of z)) (filter (conflict true (here a)) (map (under a) (paths below) ++ paths next)) (faulty (conflict true) (map (under a) (paths below) ++ paths next))) where
      four : (f h u n : Bool) → ((f || (h || u)) || n) ≡ (h || (f || (u || n)))
      four true true u n = refl
      four true false u n = refl
      four false true u n = refl
      four false false u n = refl

      first_hits : list_any (λ z. p (place_of z)) (filter (conflict true (here a)) (map (under a) (paths below) ++ paths next)) ≡ hits true p (here a) (paths next)
      first_hits = filter_any (λ z. p (place_of z)) (conflict true (here a)) (map (under a) (paths below) ++ paths next)
          ∙ any-append (λ y. conflict true (here a) y && p (place_of y)) (map (under a) (paths below)) (paths next)
          ∙ ap (λ b. b || hits true p (here a) (paths next)) (any-map (under a) (λ y. conflict true (here a) y && p (place_of y)) (paths below) ∙ any_none (λ t. false) (λ t. refl) (paths below))
