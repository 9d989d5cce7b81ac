-- The faults of the fields of one response key are those of their shapes, those of their names and arguments, and those of the one set
-- below them.
use Rattle.std.proofs.Common.{◌≡◌, Bool, true, false, true≢false, cond, not, ◌&&◌, ◌||◌, List, [], ◌∷◌, ◌++◌, map, Option, Some, None, bytes_eq, refl, ap, sym, subst, ◌∙◌}
use Rattle.std.specs.List.{list_any}
use Rattle.doc_merge.proofs.Anys.{any-append, any-map}
use Rattle.doc_merge.proofs.CellLaws.{others_faulty}
use Rattle.doc_merge.proofs.Either.{faulty_either}
use Rattle.doc_merge.proofs.Firsts.{faulty_from_first, rest_from}
use Rattle.doc_merge.proofs.JoinedSets.{below_rows, class_and_inner, every-append, every_map, faulty_mapped, heads, heads_clash, items-append, items_of_set, maps-append, maps-map}
use Rattle.doc_merge.proofs.Levels.{none_or, one_type_meets}
use Rattle.doc_merge.proofs.ShapeLaws.{same_shape-itself, shape_steps, shape_turned}
use Rattle.doc_merge.specs.Cells.{Mark, differs, mark_row, none_seen, others}
use Rattle.doc_merge.specs.Joined.{every, first_parent, from_first, has_key, inner_rows, is_parted, own_row, row_parent, row_place, shapes_unlike, unlike}
use Rattle.doc_merge.specs.Merging.{Fields, meet}
use Rattle.doc_merge.specs.Paths.{Item, Path, Pattern, Row, all_meet, clash, conflict, faulty, here, item_place, items, paths, place_of, places_of, rows_of}
use Rattle.doc_merge.specs.Shapes.{same_shape}
use Rattle.doc_merge.specs.Signatures.{same_signature}
use Rattle.plan_ir.specs.gql_ast.declared.place.FilePlace.{FilePlace}
use Rattle.plan_ir.proofs.gql_graph_laws.TextSteps.{same_text}
use Rattle.plan_ir.specs.schema_tables.Types.{Text}

abbrev head : Row → Item
head w = (w.0, here w.1)

heads_are : (ws : List Row) → heads ws ≡ map head ws
heads_are [] = refl
heads_are (w ∷ ws) = ap (λ (xs : List Item). head w ∷ xs) (heads_are ws)

abbrev unlike_names : Row → Row → Bool
unlike_names w v = all_meet (w.1.parent ∷ w.0) (v.1.parent ∷ v.0) && not (same_signature w.1.signature v.1.signature)

same_keys : (k m n : Text) → bytes_eq k m ≡ true → bytes_eq k n ≡ true → bytes_eq m n ≡ true
same_keys k m n u v = ap (λ (x : Text). bytes_eq x n) (sym (same_text k m u)) ∙ v

own_faults : (k : Text) (p : FilePlace → Bool) (ws : List Row) → every (has_key k) ws
    → list_any (λ (x : Item). p (place_of x.1)) (faulty clash (heads ws))
    ≡ (list_any (λ (w : Row). p (row_place w)) (faulty unlike ws) || list_any (λ (w : Row). p (row_place w)) (faulty unlike_names ws))
own_faults k p ws e =
    ap (λ (xs : List Item). list_any (λ (x : Item). p (place_of x.1)) (faulty clash xs)) (heads_are ws)
    ∙ sym (faulty_mapped (λ (w v : Row). unlike w v || unlike_names w v) clash head (λ (w : Row). p (row_place w)) (λ (x : Item). p (place_of x.1)) (has_key k)
    (λ w v f g. sym (heads_clash w.0 v.0 w.1 v.1 (same_keys k w.1.key v.1.key f g))) (λ w. refl) ws e)
    ∙ faulty_either unlike unlike_names (λ (w : Row). p (row_place w)) ws

-- ---- shapes

abbrev alike : Row → Row → Bool
alike w v = same_shape w.1.shape v.1.shape

from_all : {A : Type 0} (test : A → Bool) (xs : List A) → from_first test true xs ≡ xs
from_all test [] = refl
from_all {A = A} test (x ∷ xs) = ap (λ (ys : List A). x ∷ ys) (from_all test xs)

rest_is : (w : Row) (vs : List Row) → from_first (unlike w) false vs ≡ rest_from alike w vs
rest_is w [] = refl
rest_is w (v ∷ vs) = on (alike w v) (rest_is w vs) where
  on : (b : Bool) → from_first (unlike w) false vs ≡ rest_from alike w vs
      → cond (not b) (v ∷ from_first (unlike w) true vs) (from_first (unlike w) false vs) ≡ cond b (rest_from alike w vs) (v ∷ vs)
  on true h = h
  on false h = ap (λ (ys : List Row). v ∷ ys) (from_all (unlike w) vs)

shape_faults : (p : FilePlace → Bool) (ws : List Row) → list_any (λ (w : Row). p (row_place w)) (faulty unlike ws) ≡ list_any p (shapes_unlike ws)
shape_faults p [] = refl
shape_faults p (w ∷ ws) =
    faulty_from_first (λ (v : Row). p (row_place v)) alike (λ x y. shape_turned x.1.shape y.1.shape) (λ x y z. shape_steps x.1.shape y.1.shape z.1.shape) w ws
    ∙ ap (list_any (λ (v : Row). p (row_place v))) (sym (rest_is w ws))
    ∙ sym (any-map row_place p (from_first (unlike w) false ws))
    ∙ ap (λ (b : Bool). list_any p (map row_place (cond (not b) (w ∷ from_first (unlike w) true ws) (from_first (unlike w) false ws)))) (sym (same_shape-itself w.1.shape))

-- ---- names and arguments

abbrev own_mark : Bool → Row → Mark
own_mark b w = mark_row (own_row b w)

pub every_true : {A : Type 0} (xs : List A) → every (λ x. true) xs
every_true [] = tt
every_true (x ∷ xs) = (refl, every_true xs)

abbrev parent_ok : Text → Row → Bool
parent_ok t w = none_or t w.1.parent

names_apart : (p : FilePlace → Bool) (ws : List Row)
    → list_any (λ (w : Row). p (row_place w)) (faulty unlike_names ws) ≡ list_any (λ (m : Mark). p m.place) (faulty differs (map (own_mark true) ws))
names_apart p ws = faulty_mapped unlike_names differs (own_mark true) (λ (w : Row). p (row_place w)) (λ (m : Mark). p m.place) (λ w. true) (λ w v e f. refl) (λ w. refl) ws (every_true ws)

names_together : (t : Text) (p : FilePlace → Bool) (ws : List Row) → every (parent_ok t) ws
    → list_any (λ (w : Row). p (row_place w)) (faulty unlike_names ws) ≡ list_any (λ (m : Mark). p m.place) (faulty differs (map (own_mark false) ws))
names_together t p ws e =
    faulty_mapped unlike_names differs (own_mark false) (λ (w : Row). p (row_place w)) (λ (m : Mark). p m.place) (parent_ok t)
    (λ w v f g k. (one_type_meets t w.1.parent v.1.parent f g k && all_meet w.0 v.0) && not (same_signature w.1.signature v.1.signature)) (λ w. refl) ws e

-- ---- the set below

below_apart : (ws : List Row) → below_rows ws ≡ inner_rows (map (own_row true) ws)
below_apart [] = refl
below_apart (w ∷ ws) = ap (λ (vs : List Row). rows_of (w.1.parent ∷ w.0) w.2 ++ vs) (below_apart ws)

abbrev tail_of : Pattern → Pattern
tail_of [] = []
tail_of (a ∷ as_) = as_

abbrev drop_top : Item → Item
drop_top x = (tail_of x.0, x.1)

abbrev top_ok_of : Text → Pattern → Bool
top_ok_of t [] = false
top_ok_of t (a ∷ as_) = none_or t a

abbrev top_ok : Text → Item → Bool
top_ok t x = top_ok_of t x.0

clash_dropped : (t : Text) (x y : Item) → top_ok t x ≡ true → top_ok t y ≡ true → clash x y ≡ clash (drop_top x) (drop_top y)
clash_dropped t x y = on x.0 y.0 x.1 y.1 where
  on : (ps qs : Pattern) (r s : Path) → top_ok_of t ps ≡ true → top_ok_of t qs ≡ true → conflict (all_meet ps qs) r s ≡ conflict (all_meet (tail_of ps) (tail_of qs)) r s
  on [] qs r s e f = absurd (true≢false (sym e))
  on (a ∷ as_) [] r s e f = absurd (true≢false (sym f))
  on (a ∷ as_) (b ∷ bs) r s e f = λ k. conflict (one_type_meets t a b e f k && all_meet as_ bs) r s

set_dropped : (a : Option Text) (ps : Pattern) (fs : Fields) → map drop_top (items (rows_of (a ∷ ps) fs)) ≡ items (rows_of ps fs)
set_dropped a ps fs =
    ap (map drop_top) (items_of_set (a ∷ ps) fs) ∙ maps-map (λ (s : Path). (a ∷ ps, s)) drop_top (paths fs) ∙ sym (items_of_set ps fs)

items_dropped : (ws : List Row) → map drop_top (items (below_rows ws)) ≡ items (inner_rows (map (own_row false) ws))
items_dropped [] = refl
items_dropped (w ∷ ws) =
    ap (map drop_top) (items-append (rows_of (w.1.parent ∷ w.0) w.2) (below_rows ws))
    ∙ maps-append drop_top (items (rows_of (w.1.parent ∷ w.0) w.2)) (items (below_rows ws))
    ∙ (λ k. set_dropped w.1.parent w.0 w.2 k ++ items_dropped ws k)
    ∙ sym (items-append (rows_of w.0 w.2) (inner_rows (map (own_row false) ws)))

tops_ok : (t : Text) (ws : List Row) → every (parent_ok t) ws → every (top_ok t) (items (below_rows ws))
tops_ok t [] e = tt
tops_ok t (w ∷ ws) e =
    subst (λ (xs : List Item). every (top_ok t) xs) (sym (items-append (rows_of (w.1.parent ∷ w.0) w.2) (below_rows ws)))
    (every-append (top_ok t) (items (rows_of (w.1.parent ∷ w.0) w.2)) (items (below_rows ws))
    (subst (λ (xs : List Item). every (top_ok t) xs) (sym (items_of_set (w.1.parent ∷ w.0) w.2)) (every_map (top_ok t) (λ (s : Path). (w.1.parent ∷ w.0, s)) (λ s. e.0) (paths w.2)))
    (tops_ok t ws e.1))

below_together : (t : Text) (p : FilePlace → Bool) (ws : List Row) → every (parent_ok t) ws
    → list_any (λ (x : Item). p (place_of x.1)) (faulty clash (items (below_rows ws))) ≡ list_any (λ (x : Item). p (place_of x.1)) (faulty clash (items (inner_rows (map (own_row false) ws))))
below_together t p ws e =
    faulty_mapped clash clash drop_top (λ (x : Item). p (place_of x.1)) (λ (x : Item). p (place_of x.1)) (top_ok t) (clash_dropped t) (λ x. refl) (items (below_rows ws)) (tops_ok t ws e)
    ∙ ap (λ (xs : List Item). list_any (λ (x : Item). p (place_of x.1)) (faulty clash xs)) (items_dropped ws)

-- ---- where one object type at most stands among them

no_parent : (ws : List Row) → first_parent (map row_parent ws) ≡ None → every (parent_ok []) ws
no_parent [] e = tt
no_parent (w ∷ ws) e = on w.1.parent refl e (λ g. no_parent ws g) where
  on : (o : Option Text) → w.1.parent ≡ o → first_parent (o ∷ map row_parent ws) ≡ None → (first_parent (map row_parent ws) ≡ None → every (parent_ok []) ws) → every (parent_ok []) (w ∷ ws)
  on None f g h = (ap (none_or []) f, h g)
  on (Some t) f g h = cc

one_parent : (t : Text) (ws : List Row) → list_any (λ p. not (meet (Some t) p)) (map row_parent ws) ≡ false → every (parent_ok t) ws
one_parent t [] e = tt
one_parent t (w ∷ ws) e = on w.1.parent refl e (λ g. one_parent t ws g) where
  on : (o : Option Text) → w.1.parent ≡ o → (not (meet (Some t) o) || list_any (λ p. not (meet (Some t) p)) (map row_parent ws)) ≡ false
      → (list_any (λ p. not (meet (Some t) p)) (map row_parent ws) ≡ false → every (parent_ok t) ws) → every (parent_ok t) (w ∷ ws)
  on None f g r = (ap (none_or t) f, r g)
  on (Some u) f g r = ofs (bytes_eq t u) refl g where
    ofs : (b : Bool) → bytes_eq t u ≡ b → (not b || list_any (λ p. not (meet (Some t) p)) (map row_parent ws)) ≡ false → every (parent_ok t) (w ∷ ws)
    ofs true h i = (ap (none_or t) f ∙ h, r i)
    ofs false h i = absurd (true≢false i)

not_parted : (ws : List Row) → is_parted (map row_parent ws) ≡ false → (t : Text) × every (parent_ok t) ws
not_parted ws = on (first_parent (map row_parent ws)) refl where
  on : (o : Option Text) → first_parent (map row_parent ws) ≡ o → list_any (λ p. not (meet o p)) (map row_parent ws) ≡ false → (t : Text) × every (parent_ok t) ws
  on None f g = ([], no_parent ws f)
  on (Some t) f g = (t, one_parent t ws g)

-- ---- the whole

abbrev pub own_rows : List Row → List Row
own_rows ws = map (own_row (is_parted (map row_parent ws))) ws

abbrev pub group_places : List Row → List FilePlace
group_places ws = (shapes_unlike ws ++ others none_seen (map mark_row (own_rows ws))) ++ places_of (inner_rows (own_rows ws))

parts_any : (p : FilePlace → Bool) (xs ys zs : List FilePlace) (a b d : Bool) → list_any p xs ≡ a → list_any p ys ≡ b → list_any p zs ≡ d → list_any p ((xs ++ ys) ++ zs) ≡ ((a || b) || d)
parts_any p xs ys zs a b d e f g = any-append p (xs ++ ys) zs ∙ (λ k. (any-append p xs ys ∙ (λ j. e j || f j)) k || g k)

pub group_faults : (k : Text) (ws : List Row) → every (has_key k) ws → (p : FilePlace → Bool) → list_any p (places_of ws) ≡ list_any p (group_places ws)
group_faults k ws e p = on (is_parted (map row_parent ws)) refl where
  whole : list_any p (places_of ws)
      ≡ ((list_any p (shapes_unlike ws) || list_any (λ (w : Row). p (row_place w)) (faulty unlike_names ws)) || list_any (λ (x : Item). p (place_of x.1)) (faulty clash (items (below_rows ws))))
  whole = any-map item_place p (faulty clash (items ws)) ∙ class_and_inner k p ws e
      ∙ (λ i. (own_faults k p ws e ∙ (λ j. shape_faults p ws j || list_any (λ (w : Row). p (row_place w)) (faulty unlike_names ws))) i || list_any (λ (x : Item). p (place_of x.1)) (faulty clash (items (below_rows ws))))

  marks : (b : Bool) → list_any p (others none_seen (map mark_row (map (own_row b) ws))) ≡ list_any (λ (m : Mark). p m.place) (faulty differs (map (own_mark b) ws))
  marks b = others_faulty p (map mark_row (map (own_row b) ws)) ∙ ap (λ (ms : List Mark). list_any (λ (m : Mark). p m.place) (faulty differs ms)) (maps-map (own_row b) mark_row ws)

  on : (b : Bool) → is_parted (map row_parent ws) ≡ b
      → list_any p (places_of ws) ≡ list_any p ((shapes_unlike ws ++ others none_seen (map mark_row (map (own_row (is_parted (map row_parent ws))) ws))) ++ places_of (inner_rows (map (own_row (is_parted (map row_parent ws))) ws)))
  on true f =
      whole
      ∙ sym (parts_any p (shapes_unlike ws) (others none_seen (map mark_row (map (own_row true) ws))) (places_of (inner_rows (map (own_row true) ws))) _ _ _ refl
      (marks true ∙ sym (names_apart p ws))
      (any-map item_place p (faulty clash (items (inner_rows (map (own_row true) ws)))) ∙ ap (λ (vs : List Row). list_any (λ (x : Item). p (place_of x.1)) (faulty clash (items vs))) (sym (below_apart ws))))
      ∙ ap (λ (b : Bool). list_any p ((shapes_unlike ws ++ others none_seen (map mark_row (map (own_row b) ws))) ++ places_of (inner_rows (map (own_row b) ws)))) (sym f)
  on false f =
      let one = not_parted ws f in
      whole
      ∙ sym (parts_any p (shapes_unlike ws) (others none_seen (map mark_row (map (own_row false) ws))) (places_of (inner_rows (map (own_row false) ws))) _ _ _ refl
      (marks false ∙ sym (names_together one.0 p ws one.1))
      (any-map item_place p (faulty clash (items (inner_rows (map (own_row false) ws)))) ∙ sym (below_together one.0 p ws one.1)))
      ∙ ap (λ (b : Bool). list_any p ((shapes_unlike ws ++ others none_seen (map mark_row (map (own_row b) ws))) ++ places_of (inner_rows (map (own_row b) ws)))) (sym f)
