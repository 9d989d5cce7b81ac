-- Fields of one response key, those with one pattern together: which of them differ by name or arguments from an earlier one that they meet
-- (this project's own way to judge section 5.3.2).
use Rattle.std.specs.Prelude.{Bool, true, false, cond, not, ◌&&◌, ◌||◌, List, [], ◌∷◌, ◌++◌, Option, Some, None, is_some}
use Rattle.std.specs.List.{list_any, list_all}
use Rattle.plan_ir.specs.gql_ast.declared.place.FilePlace.{FilePlace}
use Rattle.doc_merge.specs.Joined.{same_pattern}
use Rattle.doc_merge.specs.Paths.{Pattern, Row, all_meet}
use Rattle.doc_merge.specs.Places.{wrong}
use Rattle.doc_merge.specs.Signatures.{Signature, same_signature}
use Rattle.plan_ir.specs.schema_tables.Types.{Text}

-- what of a field counts here
pub record Mark : Type 0 where
  pub pattern : Pattern
  pub signature : Signature
  pub place : FilePlace

abbrev pub mark_row : Row → Mark
mark_row w = record { pattern = w.0; signature = w.1.signature; place = w.1.place }

-- those with one pattern: the name and the arguments of the first, and whether another differs from it
pub record Cell : Type 0 where
  pub pattern : Pattern
  pub first : Signature
  pub is_mixed : Bool

abbrev pub is_other : Mark → Cell → Bool
is_other m c = all_meet c.pattern m.pattern && (c.is_mixed || not (same_signature c.first m.signature))

abbrev pub has_other : List Cell → Mark → Bool
has_other cs m = list_any (is_other m) cs

abbrev pub with_mark : Cell → Mark → Cell
with_mark c m = record { pattern = c.pattern; first = c.first; is_mixed = c.is_mixed || not (same_signature c.first m.signature) }

abbrev pub put : List Cell → Mark → List Cell
put [] m = record { pattern = m.pattern; first = m.signature; is_mixed = false } ∷ []
put (c ∷ cs) m = cond (same_pattern c.pattern m.pattern) (with_mark c m ∷ cs) (c ∷ put cs m)

-- ---- one level further out: what stands at the innermost level is looked at by itself

abbrev pub innermost : Pattern → Option Text
innermost [] = None
innermost (p ∷ ps) = p

abbrev pub outer : Pattern → Pattern
outer [] = []
outer (p ∷ ps) = ps

abbrev pub has_object : Pattern → Bool
has_object [] = false
has_object (p ∷ ps) = is_some p || has_object ps

abbrev pub with_pattern : Pattern → Mark → Mark
with_pattern ps m = record { pattern = ps; signature = m.signature; place = m.place }

abbrev pub one_out : Mark → Mark
one_out m = with_pattern (outer m.pattern) m

abbrev pub all_out : Mark → Mark
all_out m = with_pattern [] m

-- whether a field with this at its innermost level differs from one that was put: under an object type, or without one, else from any
abbrev pub has_other_at : (under : Text → List Cell) → (without all : List Cell) → Option Text → Mark → Bool
has_other_at under without all (Some t) m = has_other (under t) m || has_other without m
has_other_at under without all None m = has_other all m

-- where no object type stands at any level, all that were put meet
abbrev pub has_other_among : (under : Text → List Cell) → (without all whole : List Cell) → Mark → Bool
has_other_among under without all whole m = cond (has_object m.pattern) (has_other_at under without all (innermost m.pattern) (one_out m)) (has_other whole (all_out m))

-- ---- which fields differ from earlier ones

-- the object types around both meet, and the names or arguments are not the same
abbrev pub differs : Mark → Mark → Bool
differs x y = all_meet x.pattern y.pattern && not (same_signature x.signature y.signature)

abbrev pub none_seen : Mark → Bool
none_seen m = false

-- the places of those that differ from an earlier one, or from one that was seen before
abbrev pub others : (seen : Mark → Bool) → List Mark → List FilePlace
others seen [] = []
others seen (m ∷ ms) = wrong (seen m) m.place ++ others (λ (n : Mark). seen n || differs m n) ms

abbrev pub are_like : Mark → List Mark → Bool
are_like m ms = list_all (λ (n : Mark). same_signature m.signature n.signature) ms

abbrev pub have_one : List Mark → Bool
have_one [] = true
have_one (m ∷ ms) = are_like m (m ∷ ms)
