-- Noting a group of one response key, and the groups of a set in turn.
use Rattle.std.proofs.Common.{◌≡◌, ℕ, suc, ◌+◌, ◌*◌, ◌<◌, ◌≤◌, Bool, true, false, cond, List, [], ◌∷◌, ◌++◌, map, drop, length, get_or, Option, None, bytes_eq, append_assoc, refl, ap, sym, subst, ◌∙◌, max, arith}
use Rattle.std.proofs.lemmas.List.{drop_all, length-map}
use Rattle.std.specs.List.{filter, list_any}
use Rattle.plan_ir.specs.gql_ast.declared.place.FilePlace.{FilePlace}
use Rattle.plan_ir.specs.schema_tables.Types.{Text, Defs}
use Rattle.doc_merge.proofs.Anys.{any-map, any_same}
use Rattle.doc_merge.proofs.Bridge.{differences_are}
use Rattle.doc_merge.proofs.GroupLaws.{every_true, group_faults, group_places, own_rows}
use Rattle.doc_merge.proofs.JoinedSets.{faulty_mapped, items_of_set}
use Rattle.doc_merge.proofs.LeastSteps.{least-append, least_by_members}
use Rattle.doc_merge.proofs.NoteSteps.{drop_next}
use Rattle.doc_merge.proofs.SetLaws.{in_turn, in_turn_any, set_faults}
use Rattle.doc_merge.specs.Cells.{Mark, mark_row, none_seen, others}
use Rattle.doc_merge.specs.GroupView as kept
use Rattle.doc_merge.specs.Joined.{every, has_key, inner_rows, is_parted, own_row, row_parent, rows_depth, shapes_unlike}
use Rattle.doc_merge.specs.Merging.{Fields, no_fields, field, differences}
use Rattle.doc_merge.specs.Paths.{Item, Path, Pattern, Row, clash, conflict, faulty, items, item_place, paths, place_of, places_of, rows_of}
use Rattle.doc_merge.specs.Places.{least, least_from}
use Rattle.doc_merge.specs.RowView.{mark_of, parent_of, row_of}
use Rattle.doc_merge.specs.Standard.{depth}
use Rattle.doc_merge.specs.declared.row.Row as code

-- ---- what rows of the code stand for

marks_are : (defs : Defs) (rs : List code.Row) → map mark_of rs ≡ map mark_row (map (row_of defs) rs)
marks_are defs [] = refl
marks_are defs (r ∷ rs) = ap (λ (ms : List Mark). mark_of r ∷ ms) (marks_are defs rs)

parents_are : (defs : Defs) (rs : List code.Row) → map parent_of rs ≡ map row_parent (map (row_of defs) rs)
parents_are defs [] = refl
parents_are defs (r ∷ rs) = ap (λ (ps : List (Option Text)). parent_of r ∷ ps) (parents_are defs rs)

pub filtered_are : (defs : Defs) (k : Text) (rs : List code.Row) → map (row_of defs) (filter (kept.has_key k) rs) ≡ filter (has_key k) (map (row_of defs) rs)
filtered_are defs k [] = refl
filtered_are defs k (r ∷ rs) = on (kept.has_key k r) (filtered_are defs k rs) where
  on : (b : Bool) → map (row_of defs) (filter (kept.has_key k) rs) ≡ filter (has_key k) (map (row_of defs) rs)
      → map (row_of defs) (cond b (r ∷ filter (kept.has_key k) rs) (filter (kept.has_key k) rs)) ≡ cond b (row_of defs r ∷ filter (has_key k) (map (row_of defs) rs)) (filter (has_key k) (map (row_of defs) rs))
  on true h = ap (λ (ws : List Row). row_of defs r ∷ ws) h
  on false h = h

-- ---- one group

pub group_noted : (defs : Defs) (k : Text) (rs own : List code.Row) (b : Bool) (inner : List Row) (o p q r : Option FilePlace) → every (has_key k) (map (row_of defs) rs)
    → b ≡ is_parted (map parent_of rs) → map (row_of defs) own ≡ map (own_row b) (map (row_of defs) rs) → inner ≡ inner_rows (map (row_of defs) own)
    → p ≡ least_from o (shapes_unlike (map (row_of defs) rs)) → q ≡ least_from p (others none_seen (map mark_of own)) → r ≡ least_from q (places_of inner)
    → r ≡ least_from o (places_of (map (row_of defs) rs))
group_noted defs k rs own b inner o p q r e parted mine below f g h =
    let ws : List Row = map (row_of defs) rs in
    let same : map (row_of defs) own ≡ own_rows ws = mine ∙ ap (λ (d : Bool). map (own_row d) ws) (parted ∙ ap is_parted (parents_are defs rs)) in
    h ∙ (λ i. least_from (g i) (places_of (below i)))
    ∙ (λ i. least_from (least_from (f i) (others none_seen (marks_are defs own i))) (places_of (inner_rows (map (row_of defs) own))))
    ∙ ap (λ (vs : List Row). least_from (least_from (least_from o (shapes_unlike ws)) (others none_seen (map mark_row vs))) (places_of (inner_rows vs))) same
    ∙ ap (λ (x : Option FilePlace). least_from x (places_of (inner_rows (own_rows ws)))) (sym (least-append o (shapes_unlike ws) (others none_seen (map mark_row (own_rows ws)))))
    ∙ sym (least-append o (shapes_unlike ws ++ others none_seen (map mark_row (own_rows ws))) (places_of (inner_rows (own_rows ws))))
    ∙ sym (least_by_members o (places_of ws) (group_places ws) (group_faults k ws e))

-- ---- depths

depth_rows : (ps : Pattern) (fs : Fields) → rows_depth (rows_of ps fs) ≡ depth fs
depth_rows ps no_fields = refl
depth_rows ps (field a below next) = ap (λ n. max (suc (depth below)) n) (depth_rows ps next)

depth-append : (xs ys : List Row) → rows_depth (xs ++ ys) ≡ max (rows_depth xs) (rows_depth ys)
depth-append [] ys = omega arith
depth-append (x ∷ xs) ys = omega (arith, depth-append xs ys)

inner_depth : (ws : List Row) (w : Row) → rows_depth (inner_rows (w ∷ ws)) < rows_depth (w ∷ ws)
inner_depth [] w = omega (arith, depth-append (rows_of w.0 w.2) [], depth_rows w.0 w.2)
inner_depth (v ∷ ws) w = omega (arith, depth-append (rows_of w.0 w.2) (inner_rows (v ∷ ws)), depth_rows w.0 w.2, inner_depth ws v)

pub inner_less : (ws : List Row) → (inner_rows ws ≡ [] → ⊥) → rows_depth (inner_rows ws) < rows_depth ws
inner_less [] h = absurd (h refl)
inner_less (w ∷ ws) h = inner_depth ws w

pub own_depth : (b : Bool) (ws : List Row) → rows_depth (map (own_row b) ws) ≡ rows_depth ws
own_depth b [] = refl
own_depth b (w ∷ ws) = ap (λ n. max (suc (depth w.2)) n) (own_depth b ws)

filter_depth : (k : Text) (ws : List Row) → rows_depth (filter (has_key k) ws) ≤ rows_depth ws
filter_depth k [] = omega arith
filter_depth k (w ∷ ws) = on (has_key k w) (filter_depth k ws) where
  on : (b : Bool) → rows_depth (filter (has_key k) ws) ≤ rows_depth ws → rows_depth (cond b (w ∷ filter (has_key k) ws) (filter (has_key k) ws)) ≤ rows_depth (w ∷ ws)
  on true h = omega (arith, h)
  on false h = omega (arith, h)

filter_keyed : (k : Text) (ws : List Row) → every (has_key k) (filter (has_key k) ws)
filter_keyed k [] = tt
filter_keyed k (w ∷ ws) = on (has_key k w) refl (filter_keyed k ws) where
  on : (b : Bool) → has_key k w ≡ b → every (has_key k) (filter (has_key k) ws) → every (has_key k) (cond b (w ∷ filter (has_key k) ws) (filter (has_key k) ws))
  on true e h = (e, h)
  on false e h = h

-- ---- groups in turn

abbrev pub keys : List code.Row → List Text
keys rs = map (λ (r : code.Row). r.field.key.now) rs

abbrev pub group_faulty : Defs → List code.Row → List FilePlace
group_faulty defs rs = places_of (map (row_of defs) rs)

-- what is kept under the keys, as far as the loop has come
pub record Turn (defs : Defs) (rows : List code.Row) (i : ℕ) (now start : Option FilePlace) (tells : Text → List code.Row) : Type 0 where
  pub deep : (n : Text) → rows_depth (map (row_of defs) (tells n)) ≤ rows_depth (map (row_of defs) rows)
  pub has_keys : (n : Text) → every (has_key n) (map (row_of defs) (tells n))
  pub left : least_from now (in_turn (group_faulty defs) tells (keys (drop i rows))) ≡ least_from start (in_turn (group_faulty defs) (λ n. filter (kept.has_key n) rows) (keys rows))

pub turn_first : (defs : Defs) (rows : List code.Row) (o : Option FilePlace) → Turn defs rows 0 o o (λ n. filter (kept.has_key n) rows)
turn_first defs rows o = record {
  deep = λ n. let same : rows_depth (map (row_of defs) (filter (kept.has_key n) rows)) ≡ rows_depth (filter (has_key n) (map (row_of defs) rows)) = ap rows_depth (filtered_are defs n rows) in omega (arith, same, filter_depth n (map (row_of defs) rows));
  has_keys = λ n. subst (λ (ws : List Row). every (has_key n) ws) (sym (filtered_are defs n rows)) (filter_keyed n (map (row_of defs) rows));
  left = refl;
}

abbrev pub without : Text → (Text → List code.Row) → Text → List code.Row
without k tells n = cond (bytes_eq k n) [] (tells n)

pub turn_next : (defs : Defs) (rows : List code.Row) (i : ℕ) (row : code.Row) (group : List code.Row) (o p start : Option FilePlace) (tells : Text → List code.Row) → i < length rows → row ≡ get_or rows i row
    → group ≡ tells row.field.key.now → p ≡ least_from o (group_faulty defs group) → Turn defs rows i o start tells → Turn defs rows (i + 1) p start (without row.field.key.now tells)
turn_next defs rows i row group o p start tells h is e f t = record {
  deep = λ n. deep n (bytes_eq row.field.key.now n);
  has_keys = λ n. has_keys n (bytes_eq row.field.key.now n);
  left =
      (λ j. least_from ((f ∙ ap (λ (rs : List code.Row). least_from o (group_faulty defs rs)) e) j) (in_turn (group_faulty defs) (without row.field.key.now tells) (keys (drop (i + 1) rows))))
      ∙ sym (least-append o (group_faulty defs (tells row.field.key.now)) (in_turn (group_faulty defs) (without row.field.key.now tells) (keys (drop (i + 1) rows))))
      ∙ sym (ap (λ (rs : List code.Row). least_from o (in_turn (group_faulty defs) tells (keys rs))) (drop_next rows i row h is)) ∙ t.left;
} where
  deep : (n : Text) (b : Bool) → rows_depth (map (row_of defs) (cond b [] (tells n))) ≤ rows_depth (map (row_of defs) rows)
  deep n true = omega arith
  deep n false = t.deep n

  has_keys : (n : Text) (b : Bool) → every (has_key n) (map (row_of defs) (cond b [] (tells n)))
  has_keys n true = tt
  has_keys n false = t.has_keys n

pub turn_end : (defs : Defs) (rows : List code.Row) (i : ℕ) (o start : Option FilePlace) (tells : Text → List code.Row) → length rows ≤ i → Turn defs rows i o start tells
    → o ≡ least_from start (places_of (map (row_of defs) rows))
turn_end defs rows i o start tells h t =
    sym (ap (λ (rs : List code.Row). least_from o (in_turn (group_faulty defs) tells (keys rs))) (drop_all i rows h)) ∙ t.left
    ∙ least_by_members start _ _ members where
      members : (p : FilePlace → Bool) → list_any p (in_turn (group_faulty defs) (λ n. filter (kept.has_key n) rows) (keys rows)) ≡ list_any p (places_of (map (row_of defs) rows))
      members p =
          in_turn_any p (group_faulty defs) refl (λ n. filter (kept.has_key n) rows) (keys rows)
          ∙ any_same (λ n. list_any p (group_faulty defs (filter (kept.has_key n) rows))) (λ n. list_any p (places_of (filter (has_key n) (map (row_of defs) rows)))) (λ n. ap (λ (ws : List Row). list_any p (places_of ws)) (filtered_are defs n rows)) (keys rows)
          ∙ any-map (λ (r : code.Row). r.field.key.now) (λ n. list_any p (places_of (filter (has_key n) (map (row_of defs) rows)))) rows
          ∙ sym (any-map (row_of defs) (λ (w : Row). list_any p (places_of (filter (has_key w.1.key) (map (row_of defs) rows)))) rows)
          ∙ sym (set_faults p (map (row_of defs) rows))

-- ---- the whole set

pub whole_set : (fs : Fields) → least_from None (places_of (rows_of [] fs)) ≡ least (differences fs)
whole_set fs = least_by_members None (places_of (rows_of [] fs)) (differences fs) (λ p.
    any-map item_place p (faulty clash (items (rows_of [] fs)))
    ∙ ap (λ (xs : List Item). list_any (λ (x : Item). p (item_place x)) (faulty clash xs)) (items_of_set [] fs)
    ∙ sym (faulty_mapped (conflict true) clash (λ (s : Path). ([], s)) (λ (s : Path). p (place_of s)) (λ (x : Item). p (item_place x)) (λ s. true) (λ s t e f. refl) (λ s. refl) (paths fs) (every_true (paths fs)))
    ∙ sym (differences_are p fs))

-- ---- the rows below, one row more

pub inner_next : (defs : Defs) (rows : List code.Row) (i : ℕ) (row : code.Row) (old new whole : List Row) → i < length rows → row ≡ get_or rows i row
    → new ≡ old ++ rows_of (row_of defs row).0 (row_of defs row).2 → old ++ inner_rows (map (row_of defs) (drop i rows)) ≡ whole → new ++ inner_rows (map (row_of defs) (drop (i + 1) rows)) ≡ whole
inner_next defs rows i row old new whole h is e w =
    ap (λ (ws : List Row). ws ++ inner_rows (map (row_of defs) (drop (i + 1) rows))) e
    ∙ append_assoc old (rows_of (row_of defs row).0 (row_of defs row).2) (inner_rows (map (row_of defs) (drop (i + 1) rows)))
    ∙ sym (ap (λ (rs : List code.Row). old ++ inner_rows (map (row_of defs) rs)) (drop_next rows i row h is)) ∙ w

-- the set below a group is less deep
pub inner_measure : (defs : Defs) (rs own inner : List code.Row) (b : Bool) → map (row_of defs) own ≡ map (own_row b) (map (row_of defs) rs) → map (row_of defs) inner ≡ inner_rows (map (row_of defs) own)
    → (length inner ≡ 0 → ⊥) → 2 * rows_depth (map (row_of defs) inner) + 1 < 2 * rows_depth (map (row_of defs) rs)
inner_measure defs rs own inner b mine below h =
    let none : inner_rows (map (row_of defs) own) ≡ [] → ⊥ = λ e. h (sym (length-map inner (row_of defs)) ∙ ap length (below ∙ e)) in
    let less : rows_depth (inner_rows (map (row_of defs) own)) < rows_depth (map (row_of defs) own) = inner_less (map (row_of defs) own) none in
    let own_same : rows_depth (map (row_of defs) own) ≡ rows_depth (map (row_of defs) rs) = ap rows_depth mine ∙ own_depth b (map (row_of defs) rs) in
    let inner_same : rows_depth (map (row_of defs) inner) ≡ rows_depth (inner_rows (map (row_of defs) own)) = ap rows_depth below in
    omega (arith, less, own_same, inner_same)

pub empty_noted : (defs : Defs) (inner : List code.Row) (q : Option FilePlace) → length inner ≡ 0 → q ≡ least_from q (places_of (map (row_of defs) inner))
empty_noted defs [] q h = refl
empty_noted defs (r ∷ rs) q h = absurd (omega (arith, h))
