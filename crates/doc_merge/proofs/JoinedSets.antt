-- The recursion of the code: the fields of one path with the parents around them, and the one joined set below them.
use Rattle.std.proofs.Common.{◌≡◌, Bool, true, false, true≢false, cond, not, ◌&&◌, ◌||◌, List, [], ◌∷◌, ◌++◌, map, bytes_eq, refl, ap, sym, subst, ◌∙◌}
use Rattle.std.specs.List.{filter, list_any}
use Rattle.doc_merge.proofs.Anys.{any-append, any-map, filter_any, or_assoc, or_move}
use Rattle.doc_merge.proofs.Classes.{class_faulty, filter-append}
use Rattle.doc_merge.specs.Joined.{every}
use Rattle.doc_merge.specs.Merging.{Field, Fields, differ, field, meet, no_fields}
use Rattle.doc_merge.specs.Paths.{Item, Path, Pattern, Row, all_meet, clash, conflict, faulty, here, items, items_of_row, paths, place_of, rows_of, under}
use Rattle.doc_merge.specs.Shapes.{same_shape}
use Rattle.doc_merge.specs.Signatures.{same_signature}
use Rattle.plan_ir.specs.gql_ast.declared.place.FilePlace.{FilePlace}
use Rattle.plan_ir.proofs.gql_graph_laws.TextSteps.{same_text}
use Rattle.plan_ir.specs.schema_tables.Types.{Text}

-- the joined set below a class
abbrev pub below_rows : List Row → List Row
below_rows [] = []
below_rows (w ∷ ws) = rows_of (w.1.parent ∷ w.0) w.2 ++ below_rows ws

abbrev pub heads : List Row → List Item
heads [] = []
heads (w ∷ ws) = (w.0, here w.1) ∷ heads ws

abbrev is_here : Item → Bool
is_here x = on x.1 where
  on : Path → Bool
  on (here a) = true
  on (under a s) = false

abbrev top : Path → Field
top (here a) = a
top (under a s) = a

abbrev strip_of : Pattern → Path → Item
strip_of ps (here a) = (ps, here a)
strip_of ps (under a s) = (a.parent ∷ ps, s)

abbrev strip : Item → Item
strip x = strip_of x.0 x.1

abbrev fits : Text → Item → Bool
fits k x = on x.1 where
  on : Path → Bool
  on (here a) = false
  on (under a s) = bytes_eq k a.key

strip_place : (x : Item) → place_of (strip x).1 ≡ place_of x.1
strip_place x = on x.0 x.1 where
  on : (ps : Pattern) (s : Path) → place_of (strip_of ps s).1 ≡ place_of s
  on ps (here a) = refl
  on ps (under a s) = refl

assoc : {A : Type 0} (us vs ws : List A) → (us ++ vs) ++ ws ≡ us ++ (vs ++ ws)
assoc [] vs ws = refl
assoc {A = A} (u ∷ us) vs ws = ap (λ (zs : List A). u ∷ zs) (assoc us vs ws)

pub maps-append : {A B : Type 0} (f : A → B) (xs ys : List A) → map f (xs ++ ys) ≡ map f xs ++ map f ys
maps-append f [] ys = refl
maps-append {B = B} f (x ∷ xs) ys = ap (λ (zs : List B). f x ∷ zs) (maps-append f xs ys)

pub maps-map : {A B C : Type 0} (f : A → B) (g : B → C) (xs : List A) → map g (map f xs) ≡ map (λ x. g (f x)) xs
maps-map f g [] = refl
maps-map {C = C} f g (x ∷ xs) = ap (λ (zs : List C). g (f x) ∷ zs) (maps-map f g xs)

pub filter_map_all : {A B : Type 0} (q : B → Bool) (f : A → B) → ((x : A) → q (f x) ≡ true) → (xs : List A) → filter q (map f xs) ≡ map f xs
filter_map_all q f h [] = refl
filter_map_all {B = B} q f h (x ∷ xs) = (λ k. cond (h x k) (f x ∷ filter q (map f xs)) (filter q (map f xs))) ∙ ap (λ (zs : List B). f x ∷ zs) (filter_map_all q f h xs)

pub filter_map_none : {A B : Type 0} (q : B → Bool) (f : A → B) → ((x : A) → q (f x) ≡ false) → (xs : List A) → filter q (map f xs) ≡ []
filter_map_none q f h [] = refl
filter_map_none q f h (x ∷ xs) = (λ k. cond (h x k) (f x ∷ filter q (map f xs)) (filter q (map f xs))) ∙ filter_map_none q f h xs

pub items-append : (xs ys : List Row) → items (xs ++ ys) ≡ items xs ++ items ys
items-append [] ys = refl
items-append (x ∷ xs) ys = ap (λ (zs : List Item). items_of_row x ++ zs) (items-append xs ys) ∙ sym (assoc (items_of_row x) (items xs) (items ys))

-- a set with what stands around it
pub items_of_set : (ps : Pattern) (fs : Fields) → items (rows_of ps fs) ≡ map (λ (s : Path). (ps, s)) (paths fs)
items_of_set ps no_fields = refl
items_of_set ps (field a below next) = ap (λ (zs : List Item). (ps, here a) ∷ zs)
    ((λ k. sym (maps-map (under a) (λ (s : Path). (ps, s)) (paths below)) k ++ items_of_set ps next k)
    ∙ sym (maps-append (λ (s : Path). (ps, s)) (map (under a) (paths below)) (paths next)))

heads_filtered : (ws : List Row) → filter is_here (items ws) ≡ heads ws
heads_filtered [] = refl
heads_filtered (w ∷ ws) = ap (λ (zs : List Item). (w.0, here w.1) ∷ zs)
    (filter-append is_here (map (λ (s : Path). (w.0, under w.1 s)) (paths w.2)) (items ws)
    ∙ (λ k. filter_map_none is_here (λ (s : Path). (w.0, under w.1 s)) (λ s. refl) (paths w.2) k ++ heads_filtered ws k))

unders_filtered : (w : Row) (ws : List Row) → filter (λ x. not (is_here x)) (items (w ∷ ws)) ≡ map (λ (s : Path). (w.0, under w.1 s)) (paths w.2) ++ filter (λ x. not (is_here x)) (items ws)
unders_filtered w ws = filter-append (λ x. not (is_here x)) (map (λ (s : Path). (w.0, under w.1 s)) (paths w.2)) (items ws)
    ∙ ap (λ (zs : List Item). zs ++ filter (λ x. not (is_here x)) (items ws)) (filter_map_all (λ x. not (is_here x)) (λ (s : Path). (w.0, under w.1 s)) (λ s. refl) (paths w.2))

unders_are : (ws : List Row) → map strip (filter (λ x. not (is_here x)) (items ws)) ≡ items (below_rows ws)
unders_are [] = refl
unders_are (w ∷ ws) =
    ap (map strip) (unders_filtered w ws)
    ∙ maps-append strip (map (λ (s : Path). (w.0, under w.1 s)) (paths w.2)) (filter (λ x. not (is_here x)) (items ws))
    ∙ (λ k. (maps-map (λ (s : Path). (w.0, under w.1 s)) strip (paths w.2) ∙ sym (items_of_set (w.1.parent ∷ w.0) w.2)) k ++ unders_are ws k)
    ∙ sym (items-append (rows_of (w.1.parent ∷ w.0) w.2) (below_rows ws))

pub every-append : {A : Type 0} (ok : A → Bool) (xs ys : List A) → every ok xs → every ok ys → every ok (xs ++ ys)
every-append ok [] ys e f = f
every-append ok (x ∷ xs) ys e f = (e.0, every-append ok xs ys e.1 f)

pub every_map : {A B : Type 0} (ok : B → Bool) (f : A → B) → ((x : A) → ok (f x) ≡ true) → (xs : List A) → every ok (map f xs)
every_map ok f h [] = tt
every_map ok f h (x ∷ xs) = (h x, every_map ok f h xs)

unders_fit : (k : Text) (ws : List Row) → every (λ (w : Row). bytes_eq k w.1.key) ws → every (fits k) (filter (λ x. not (is_here x)) (items ws))
unders_fit k [] h = tt
unders_fit k (w ∷ ws) h = subst (λ (zs : List Item). every (fits k) zs) (sym (unders_filtered w ws))
    (every-append (fits k) (map (λ (s : Path). (w.0, under w.1 s)) (paths w.2)) (filter (λ x. not (is_here x)) (items ws))
    (every_map (fits k) (λ (s : Path). (w.0, under w.1 s)) (λ s. h.0) (paths w.2)) (unders_fit k ws h.1))

pub faulty_mapped : {A B : Type 0} (c : A → A → Bool) (d : B → B → Bool) (f : A → B) (p : A → Bool) (q : B → Bool) (ok : A → Bool) → ((x y : A) → ok x ≡ true → ok y ≡ true → c x y ≡ d (f x) (f y))
    → ((x : A) → p x ≡ q (f x)) → (xs : List A) → every ok xs → list_any p (faulty c xs) ≡ list_any q (faulty d (map f xs))
faulty_mapped c d f p q ok h g [] e = refl
faulty_mapped {A = A} c d f p q ok h g (x ∷ xs) e =
    any-append p (filter (c x) xs) (faulty c xs)
    ∙ (λ k. (filter_any p (c x) xs ∙ ones xs e.1 ∙ sym (any-map f (λ y. d (f x) y && q y) xs) ∙ sym (filter_any q (d (f x)) (map f xs))) k || faulty_mapped c d f p q ok h g xs e.1 k)
    ∙ sym (any-append q (filter (d (f x)) (map f xs)) (faulty d (map f xs))) where
      ones : (ys : List A) → every ok ys → list_any (λ y. c x y && p y) ys ≡ list_any (λ y. d (f x) (f y) && q (f y)) ys
      ones [] u = refl
      ones (y ∷ ys) u = λ k. (h x y e.0 u.0 k && g y k) || ones ys u.1 k

any_split : {A : Type 0} (p q : A → Bool) (xs : List A) → list_any p xs ≡ (list_any p (filter q xs) || list_any p (filter (λ x. not (q x)) xs))
any_split p q [] = refl
any_split p q (x ∷ xs) = ap (λ b. p x || b) (any_split p q xs) ∙ on (q x) where
  on : (b : Bool) → (p x || (list_any p (filter q xs) || list_any p (filter (λ y. not (q y)) xs))) ≡ (list_any p (cond b (x ∷ filter q xs) (filter q xs)) || list_any p (cond (not b) (x ∷ filter (λ y. not (q y)) xs) (filter (λ y. not (q y)) xs)))
  on true = sym (or_assoc (p x) (list_any p (filter q xs)) (list_any p (filter (λ y. not (q y)) xs)))
  on false = sym (or_move (list_any p (filter q xs)) (p x) (list_any p (filter (λ y. not (q y)) xs)) (list_any p (filter q xs) || list_any p (filter (λ y. not (q y)) xs)) refl)

one_form : (x y : Item) → clash x y ≡ true → is_here y ≡ is_here x
one_form x y = on (all_meet x.0 y.0) x.1 y.1 where
  on : (m : Bool) (s t : Path) → conflict m s t ≡ true → is_here (x.0, t) ≡ is_here (x.0, s)
  on m (here a) (here b) e = refl
  on m (under a s) (under b t) e = refl
  on m (here a) (under b t) e = absurd (true≢false (sym e))
  on m (under a s) (here b) e = absurd (true≢false (sym e))

and_turned : (a b : Bool) → (a && b) ≡ (b && a)
and_turned true true = refl
and_turned true false = refl
and_turned false true = refl
and_turned false false = refl

clash_inner : (k : Text) (x y : Item) → fits k x ≡ true → fits k y ≡ true → clash x y ≡ clash (strip x) (strip y)
clash_inner k x y = on x.0 y.0 x.1 y.1 where
  same : (k m n : Text) → bytes_eq k m ≡ true → bytes_eq k n ≡ true → bytes_eq m n ≡ true
  same k m n u v = ap (λ (x : Text). bytes_eq x n) (sym (same_text k m u)) ∙ v

  on : (ps qs : Pattern) (s t : Path) → fits k (ps, s) ≡ true → fits k (qs, t) ≡ true → clash (ps, s) (qs, t) ≡ clash (strip_of ps s) (strip_of qs t)
  on ps qs (here a) t e f = absurd (true≢false (sym e))
  on ps qs (under a s) (here b) e f = absurd (true≢false (sym f))
  on ps qs (under a s) (under b t) e f = λ i. same k a.key b.key e f i && conflict (and_turned (all_meet ps qs) (meet a.parent b.parent) i) s t

-- of the fields of one path: the faults among themselves, and those of the one set that all their sub-selections make
pub class_and_inner : (k : Text) (p : FilePlace → Bool) (ws : List Row) → every (λ (w : Row). bytes_eq k w.1.key) ws
    → list_any (λ (x : Item). p (place_of x.1)) (faulty clash (items ws))
    ≡ (list_any (λ (x : Item). p (place_of x.1)) (faulty clash (heads ws)) || list_any (λ (x : Item). p (place_of x.1)) (faulty clash (items (below_rows ws))))
class_and_inner k p ws e =
    any_split (λ (x : Item). p (place_of x.1)) is_here (faulty clash (items ws))
    ∙ (λ i. list_any (λ (x : Item). p (place_of x.1)) (own i) || (ap (list_any (λ (x : Item). p (place_of x.1))) (class_faulty clash (λ x. not (is_here x)) (λ x y g. ap not (one_form x y g)) (items ws))
    ∙ faulty_mapped clash clash strip (λ (x : Item). p (place_of x.1)) (λ (x : Item). p (place_of x.1)) (fits k) (clash_inner k) (λ x. ap p (sym (strip_place x))) (filter (λ x. not (is_here x)) (items ws)) (unders_fit k ws e)
    ∙ ap (λ (zs : List Item). list_any (λ (x : Item). p (place_of x.1)) (faulty clash zs)) (unders_are ws)) i) where
      own : filter is_here (faulty clash (items ws)) ≡ faulty clash (heads ws)
      own = class_faulty clash is_here (λ x y g. one_form x y g) (items ws) ∙ ap (faulty clash) (heads_filtered ws)

-- two fields of one path themselves: by shape, or by name and arguments where the parents meet at every level
pub heads_clash : (ps qs : Pattern) (a b : Field) → bytes_eq a.key b.key ≡ true
    → clash (ps, here a) (qs, here b) ≡ (not (same_shape a.shape b.shape) || (all_meet (a.parent ∷ ps) (b.parent ∷ qs) && not (same_signature a.signature b.signature)))
heads_clash ps qs a b e = λ i. e i && differ (and_turned (all_meet ps qs) (meet a.parent b.parent) i) a b
