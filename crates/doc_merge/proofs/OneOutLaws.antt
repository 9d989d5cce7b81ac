-- Cells that are kept one level further out tell the same of a field as the fields that were put.
use Rattle.std.proofs.Common.{◌≡◌, Bool, true, false, true≢false, cond, not, ◌&&◌, ◌||◌, List, [], ◌∷◌, Option, Some, None, bytes_eq, refl, ap, sym, ◌∙◌}
use Rattle.doc_merge.proofs.Anys.{and_assoc, or_assoc, or_false}
use Rattle.doc_merge.proofs.CellLaws.{has_other_put, or_last}
use Rattle.doc_merge.specs.Cells.{Cell, Mark, all_out, differs, has_object, has_other, has_other_among, has_other_at, innermost, one_out, outer, put}
use Rattle.doc_merge.specs.Merging.{meet}
use Rattle.doc_merge.specs.Paths.{Pattern, all_meet}
use Rattle.doc_merge.specs.Signatures.{same_signature}
use Rattle.plan_ir.specs.schema_tables.Types.{Text}

-- ---- patterns

none_meets : (p : Option Text) → meet p None ≡ true
none_meets None = refl
none_meets (Some t) = refl

nothing_meets : (ps : Pattern) → all_meet ps [] ≡ true
nothing_meets [] = refl
nothing_meets (p ∷ ps) = refl

meet_out : (ps qs : Pattern) → all_meet ps qs ≡ (meet (innermost ps) (innermost qs) && all_meet (outer ps) (outer qs))
meet_out [] qs = refl
meet_out (p ∷ ps) [] = sym ((λ k. none_meets p k && all_meet ps []) ∙ nothing_meets ps)
meet_out (p ∷ ps) (q ∷ qs) = refl

free_meets : (ps qs : Pattern) → has_object qs ≡ false → all_meet ps qs ≡ true
free_meets [] qs e = refl
free_meets (p ∷ ps) [] e = refl
free_meets (p ∷ ps) (None ∷ qs) e = (λ k. none_meets p k && all_meet ps qs) ∙ free_meets ps qs e
free_meets (p ∷ ps) (Some q ∷ qs) e = absurd (true≢false e)

-- ---- fields

differs_out : (x y : Mark) → differs x y ≡ (meet (innermost x.pattern) (innermost y.pattern) && differs (one_out x) (one_out y))
differs_out x y =
    ap (λ b. b && not (same_signature x.signature y.signature)) (meet_out x.pattern y.pattern)
    ∙ and_assoc (meet (innermost x.pattern) (innermost y.pattern)) (all_meet (outer x.pattern) (outer y.pattern)) (not (same_signature x.signature y.signature))

differs_free : (x y : Mark) → has_object y.pattern ≡ false → differs x y ≡ differs (all_out x) (all_out y)
differs_free x y e = ap (λ b. b && not (same_signature x.signature y.signature)) (free_meets x.pattern y.pattern e)

-- ---- one field more, one level further out

put_under : (under new : Text → List Cell) (without all : List Cell) (t : Text) (x y : Mark) (p : Option Text) → ((n : Text) → new n ≡ cond (bytes_eq t n) (put (under n) x) (under n))
    → has_other_at new without (put all x) p y ≡ (has_other_at under without all p y || (meet (Some t) p && differs x y))
put_under under new without all t x y None h = has_other_put all x y
put_under under new without all t x y (Some n) h = (λ k. has_other (h n k) y || has_other without y) ∙ on (bytes_eq t n) where
  on : (b : Bool) → (has_other (cond b (put (under n) x) (under n)) y || has_other without y) ≡ ((has_other (under n) y || has_other without y) || (b && differs x y))
  on true = ap (λ b. b || has_other without y) (has_other_put (under n) x y) ∙ or_last (has_other (under n) y) (differs x y) (has_other without y)
  on false = sym (or_false (has_other (under n) y || has_other without y))

put_without : (under : Text → List Cell) (without all : List Cell) (x y : Mark) (p : Option Text)
    → has_other_at under (put without x) (put all x) p y ≡ (has_other_at under without all p y || (meet None p && differs x y))
put_without under without all x y None = has_other_put all x y
put_without under without all x y (Some n) = ap (λ b. has_other (under n) y || b) (has_other_put without x y) ∙ sym (or_assoc (has_other (under n) y) (has_other without y) (differs x y))

-- ---- one field more

-- what is told one level further out is told of the field itself
told : (under new : Text → List Cell) (without without_new all whole : List Cell) (x y : Mark)
    → has_other_at new without_new (put all (one_out x)) (innermost y.pattern) (one_out y)
    ≡ (has_other_at under without all (innermost y.pattern) (one_out y) || (meet (innermost x.pattern) (innermost y.pattern) && differs (one_out x) (one_out y)))
    → has_other_among new without_new (put all (one_out x)) (put whole (all_out x)) y ≡ (has_other_among under without all whole y || differs x y)
told under new without without_new all whole x y e = on (has_object y.pattern) refl where
  on : (b : Bool) → has_object y.pattern ≡ b
      → cond b (has_other_at new without_new (put all (one_out x)) (innermost y.pattern) (one_out y)) (has_other (put whole (all_out x)) (all_out y))
      ≡ (cond b (has_other_at under without all (innermost y.pattern) (one_out y)) (has_other whole (all_out y)) || differs x y)
  on true g = e ∙ ap (λ b. has_other_at under without all (innermost y.pattern) (one_out y) || b) (sym (differs_out x y))
  on false g = has_other_put whole (all_out x) (all_out y) ∙ ap (λ b. has_other whole (all_out y) || b) (sym (differs_free x y g))

pub told_under : (under new : Text → List Cell) (without all whole : List Cell) (t : Text) (x : Mark) → innermost x.pattern ≡ Some t
    → ((n : Text) → new n ≡ cond (bytes_eq t n) (put (under n) (one_out x)) (under n)) → (y : Mark)
    → has_other_among new without (put all (one_out x)) (put whole (all_out x)) y ≡ (has_other_among under without all whole y || differs x y)
told_under under new without all whole t x e h y =
    told under new without without all whole x y
    (put_under under new without all t (one_out x) (one_out y) (innermost y.pattern) h
    ∙ ap (λ (p : Option Text). has_other_at under without all (innermost y.pattern) (one_out y) || (meet p (innermost y.pattern) && differs (one_out x) (one_out y))) (sym e))

pub told_without : (under : Text → List Cell) (without all whole : List Cell) (x : Mark) → innermost x.pattern ≡ None → (y : Mark)
    → has_other_among under (put without (one_out x)) (put all (one_out x)) (put whole (all_out x)) y ≡ (has_other_among under without all whole y || differs x y)
told_without under without all whole x e y =
    told under under without (put without (one_out x)) all whole x y
    (put_without under without all (one_out x) (one_out y) (innermost y.pattern)
    ∙ ap (λ (p : Option Text). has_other_at under without all (innermost y.pattern) (one_out y) || (meet p (innermost y.pattern) && differs (one_out x) (one_out y))) (sym e))

-- ---- where none was put

pub none_told : (under : Text → List Cell) (without all whole : List Cell) → ((n : Text) → under n ≡ []) → without ≡ [] → all ≡ [] → whole ≡ [] → (m : Mark)
    → has_other_among under without all whole m ≡ false
none_told under without all whole u w a h m = on (has_object m.pattern) where
  at : (p : Option Text) → has_other_at under without all p (one_out m) ≡ false
  at None = λ k. has_other (a k) (one_out m)
  at (Some t) = λ k. has_other (u t k) (one_out m) || has_other (w k) (one_out m)

  on : (b : Bool) → cond b (has_other_at under without all (innermost m.pattern) (one_out m)) (has_other whole (all_out m)) ≡ false
  on true = at (innermost m.pattern)
  on false = λ k. has_other (h k) (all_out m)
