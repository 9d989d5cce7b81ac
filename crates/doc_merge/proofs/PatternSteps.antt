-- Patterns that are compared level by level, and rows that get patterns.
use Rattle.std.proofs.Common.{◌≡◌, ◌≢◌, ℕ, ◌+◌, ◌<◌, ◌≤◌, Bool, true, false, true≢false, is_some, Some, None, ◌&&◌, List, [], ◌∷◌, ◌++◌, map, drop, length, get_or, Option, append_assoc, refl, ap, sym, ◌∙◌, arith}
use Rattle.std.specs.Prelude.{option_copied}
use Rattle.std.proofs.lemmas.List.{append-nil, drop_all, get_or_default}
use denote.Ref.{Bor}
use Rattle.plan_ir.specs.schema_tables.Types.{Text, Defs}
use Rattle.doc_merge.proofs.NoteSteps.{drop_next}
use Rattle.doc_merge.specs.Cells.{one_out, outer, with_pattern}
use Rattle.doc_merge.specs.Joined.{first_parent, own_pattern, own_row, same_parent, same_pattern, with_patterns}
use Rattle.doc_merge.specs.Merging.{meet}
use Rattle.doc_merge.specs.Paths.{Pattern, Row, all_meet}
use Rattle.doc_merge.specs.RowView.{mark_of, parent_of, pattern_of, row_of}
use Rattle.doc_merge.specs.declared.row.Row as code

abbrev pub ParentList : Type 0
ParentList = List (Option (Bor Text))

abbrev pub parents : ParentList → Pattern
parents ps = map option_copied ps

-- the level at a place, whatever stands past the end
level_next : (xs : ParentList) (i : ℕ) (d : Option (Bor Text)) → i < length xs → drop i xs ≡ get_or xs i d ∷ drop (i + 1) xs
level_next xs i d h = drop_next xs i (get_or xs i d) h (get_or_default xs i d (get_or xs i d) h)

pub meet_next : (xs ys : ParentList) (i : ℕ) (d e : Option (Bor Text)) (whole : Bool) → i < length xs → i < length ys
    → meet (option_copied (get_or xs i d)) (option_copied (get_or ys i e)) ≡ true → whole ≡ all_meet (parents (drop i xs)) (parents (drop i ys)) → whole ≡ all_meet (parents (drop (i + 1) xs)) (parents (drop (i + 1) ys))
meet_next xs ys i d e whole h k s w =
    w ∙ (λ j. all_meet (parents (level_next xs i d h j)) (parents (level_next ys i e k j))) ∙ ap (λ b. b && all_meet (parents (drop (i + 1) xs)) (parents (drop (i + 1) ys))) s

pub meet_not : (xs ys : ParentList) (i : ℕ) (d e : Option (Bor Text)) (whole : Bool) → i < length xs → i < length ys
    → meet (option_copied (get_or xs i d)) (option_copied (get_or ys i e)) ≡ false → whole ≡ all_meet (parents (drop i xs)) (parents (drop i ys)) → false ≡ whole
meet_not xs ys i d e whole h k s w =
    sym (w ∙ (λ j. all_meet (parents (level_next xs i d h j)) (parents (level_next ys i e k j))) ∙ ap (λ b. b && all_meet (parents (drop (i + 1) xs)) (parents (drop (i + 1) ys))) s)

meets_none : (ps : Pattern) → all_meet ps [] ≡ true
meets_none [] = refl
meets_none (p ∷ ps) = refl

pub meet_short : (xs ys : ParentList) (i : ℕ) (whole : Bool) → length ys ≤ i → whole ≡ all_meet (parents (drop i xs)) (parents (drop i ys)) → true ≡ whole
meet_short xs ys i whole h w = sym (w ∙ ap (λ (zs : ParentList). all_meet (parents (drop i xs)) (parents zs)) (drop_all i ys h) ∙ meets_none (parents (drop i xs)))

pub meet_end : (xs ys : ParentList) (i : ℕ) (whole : Bool) → length xs ≤ i → whole ≡ all_meet (parents (drop i xs)) (parents (drop i ys)) → true ≡ whole
meet_end xs ys i whole h w = sym (w ∙ ap (λ (zs : ParentList). all_meet (parents zs) (parents (drop i ys))) (drop_all i xs h))

-- ---- the same pattern

pub same_next : (xs ys : ParentList) (i : ℕ) (d e : Option (Bor Text)) (whole : Bool) → i < length xs → i < length ys
    → same_parent (option_copied (get_or xs i d)) (option_copied (get_or ys i e)) ≡ true → whole ≡ same_pattern (parents (drop i xs)) (parents (drop i ys)) → whole ≡ same_pattern (parents (drop (i + 1) xs)) (parents (drop (i + 1) ys))
same_next xs ys i d e whole h k s w =
    w ∙ (λ j. same_pattern (parents (level_next xs i d h j)) (parents (level_next ys i e k j))) ∙ ap (λ b. b && same_pattern (parents (drop (i + 1) xs)) (parents (drop (i + 1) ys))) s

pub same_not : (xs ys : ParentList) (i : ℕ) (d e : Option (Bor Text)) (whole : Bool) → i < length xs → i < length ys
    → same_parent (option_copied (get_or xs i d)) (option_copied (get_or ys i e)) ≡ false → whole ≡ same_pattern (parents (drop i xs)) (parents (drop i ys)) → false ≡ whole
same_not xs ys i d e whole h k s w =
    sym (w ∙ (λ j. same_pattern (parents (level_next xs i d h j)) (parents (level_next ys i e k j))) ∙ ap (λ b. b && same_pattern (parents (drop (i + 1) xs)) (parents (drop (i + 1) ys))) s)

and_false : (a b : Bool) → b ≡ false → (a && b) ≡ false
and_false true b h = h
and_false false b h = refl

pub same_lengths : (xs ys : ParentList) → length xs ≢ length ys → same_pattern (parents xs) (parents ys) ≡ false
same_lengths [] [] other = absurd (other refl)
same_lengths [] (y ∷ ys) other = refl
same_lengths (x ∷ xs) [] other = refl
same_lengths (x ∷ xs) (y ∷ ys) other = and_false (same_parent (option_copied x) (option_copied y)) _ (same_lengths xs ys (λ e. other (omega arith)))

pub same_end : (xs ys : ParentList) (i : ℕ) (whole : Bool) → length xs ≤ i → length ys ≤ i → whole ≡ same_pattern (parents (drop i xs)) (parents (drop i ys)) → true ≡ whole
same_end xs ys i whole h k w = sym (w ∙ (λ j. same_pattern (parents (drop_all i xs h j)) (parents (drop_all i ys k j))))

-- ---- rows that get patterns

pub patterns_are : (defs : Defs) (b : Bool) (rs : List code.Row)
    → with_patterns (map (λ (r : code.Row). own_pattern b (pattern_of r) (parent_of r)) rs) (map (row_of defs) rs) ≡ map (own_row b) (map (row_of defs) rs)
patterns_are defs b [] = refl
patterns_are defs b (r ∷ rs) = ap (λ (ws : List Row). own_row b (row_of defs r) ∷ ws) (patterns_are defs b rs)

with_none : (ps : List Pattern) → with_patterns ps [] ≡ []
with_none [] = refl
with_none (p ∷ ps) = refl

-- one more row
pub with_next : {P : Type 0} (shown : P → Pattern) (defs : Defs) (ps : List P) (rs : List code.Row) (i : ℕ) (p : P) (r : code.Row) (new : code.Row) (old now whole : List Row)
    → i < length ps → i < length rs → p ≡ get_or ps i p → r ≡ get_or rs i r → now ≡ old ++ row_of defs new ∷ [] → row_of defs new ≡ (shown p, (row_of defs r).1, (row_of defs r).2)
    → old ++ with_patterns (map shown (drop i ps)) (map (row_of defs) (drop i rs)) ≡ whole → now ++ with_patterns (map shown (drop (i + 1) ps)) (map (row_of defs) (drop (i + 1) rs)) ≡ whole
with_next {P = P} shown defs ps rs i p r new old now whole h k e f g s w =
    ap (λ (ws : List Row). ws ++ with_patterns (map shown (drop (i + 1) ps)) (map (row_of defs) (drop (i + 1) rs))) g
    ∙ append_assoc old (row_of defs new ∷ []) (with_patterns (map shown (drop (i + 1) ps)) (map (row_of defs) (drop (i + 1) rs)))
    ∙ ap (λ (v : Row). old ++ v ∷ with_patterns (map shown (drop (i + 1) ps)) (map (row_of defs) (drop (i + 1) rs))) s
    ∙ sym (λ j. old ++ with_patterns (map shown (drop_next ps i p h e j)) (map (row_of defs) (drop_next rs i r k f j))) ∙ w

pub with_short : {P : Type 0} (shown : P → Pattern) (defs : Defs) (ps : List P) (rs : List code.Row) (i : ℕ) (old whole : List Row) → length rs ≤ i
    → old ++ with_patterns (map shown (drop i ps)) (map (row_of defs) (drop i rs)) ≡ whole → old ≡ whole
with_short {P = P} shown defs ps rs i old whole h w =
    sym (append-nil old) ∙ sym (ap (λ (ws : List Row). old ++ ws) (ap (λ (zs : List code.Row). with_patterns (map shown (drop i ps)) (map (row_of defs) zs)) (drop_all i rs h) ∙ with_none (map shown (drop i ps)))) ∙ w

pub with_end : {P : Type 0} (shown : P → Pattern) (defs : Defs) (ps : List P) (rs : List code.Row) (i : ℕ) (old whole : List Row) → length ps ≤ i
    → old ++ with_patterns (map shown (drop i ps)) (map (row_of defs) (drop i rs)) ≡ whole → old ≡ whole
with_end {P = P} shown defs ps rs i old whole h w =
    sym (append-nil old) ∙ sym (ap (λ (zs : List P). old ++ with_patterns (map shown zs) (map (row_of defs) (drop i rs))) (drop_all i ps h)) ∙ w

-- ---- the first object type

pub parent_here : (rs : List code.Row) (i : ℕ) (r : code.Row) (whole : Option Text) → i < length rs → r ≡ get_or rs i r → is_some r.field.parent ≡ true
    → first_parent (map parent_of (drop i rs)) ≡ whole → option_copied r.field.parent ≡ whole
parent_here rs i r whole h e s w = sym (on r.field.parent refl s) ∙ sym (ap (λ (xs : List code.Row). first_parent (map parent_of xs)) (drop_next rs i r h e)) ∙ w where
  on : (o : Option (Bor Text)) → r.field.parent ≡ o → is_some o ≡ true → first_parent (option_copied r.field.parent ∷ map parent_of (drop (i + 1) rs)) ≡ option_copied r.field.parent
  on None f g = absurd (true≢false (sym g))
  on (Some p) f g = ap (λ (q : Option (Bor Text)). first_parent (option_copied q ∷ map parent_of (drop (i + 1) rs))) f ∙ sym (ap option_copied f)

pub parent_not : (rs : List code.Row) (i : ℕ) (r : code.Row) (whole : Option Text) → i < length rs → r ≡ get_or rs i r → is_some r.field.parent ≡ false
    → first_parent (map parent_of (drop i rs)) ≡ whole → first_parent (map parent_of (drop (i + 1) rs)) ≡ whole
parent_not rs i r whole h e s w = sym (on r.field.parent refl s) ∙ sym (ap (λ (xs : List code.Row). first_parent (map parent_of xs)) (drop_next rs i r h e)) ∙ w where
  on : (o : Option (Bor Text)) → r.field.parent ≡ o → is_some o ≡ false → first_parent (option_copied r.field.parent ∷ map parent_of (drop (i + 1) rs)) ≡ first_parent (map parent_of (drop (i + 1) rs))
  on None f g = ap (λ (q : Option (Bor Text)). first_parent (option_copied q ∷ map parent_of (drop (i + 1) rs))) f
  on (Some p) f g = absurd (true≢false g)

-- ---- no level is left out of none

pub out_of_none : (r : code.Row) → length r.pattern.now ≡ 0 → mark_of r ≡ one_out (mark_of r)
out_of_none r e = on r.pattern.now e where
  on : (ps : ParentList) → length ps ≡ 0 → with_pattern (parents ps) (mark_of r) ≡ with_pattern (outer (parents ps)) (mark_of r)
  on [] f = refl
  on (p ∷ ps) f = absurd (omega (arith, f))
