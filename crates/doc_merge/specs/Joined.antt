-- The rows of one response key, and the one set that all their sub-selections make (this project's own way to judge sections 5.3.2).
use Rattle.std.specs.Prelude.{◌≡◌, ℕ, suc, Bool, true, false, cond, not, ◌&&◌, ◌||◌, List, [], ◌∷◌, ◌++◌, map, Option, Some, None, bytes_eq, max}
use Rattle.std.specs.List.{list_any}
use Rattle.plan_ir.specs.gql_ast.declared.place.FilePlace.{FilePlace}
use Rattle.plan_ir.specs.schema_tables.Types.{Text}
use Rattle.doc_merge.specs.Merging.{meet}
use Rattle.doc_merge.specs.Paths.{Pattern, Row, rows_of}
use Rattle.doc_merge.specs.Shapes.{same_shape}
use Rattle.doc_merge.specs.Standard.{depth}

abbrev pub every : {A : Type 0} → (A → Bool) → List A → Type 0
every ok [] = Unit {0}
every ok (x ∷ xs) = (ok x ≡ true) × every ok xs

abbrev pub has_key : Text → Row → Bool
has_key k w = bytes_eq k w.1.key

abbrev pub row_place : Row → FilePlace
row_place w = w.1.place

-- how many sets stand in one another, that of these rows counted
abbrev pub rows_depth : List Row → ℕ
rows_depth [] = 0
rows_depth (w ∷ ws) = max (suc (depth w.2)) (rows_depth ws)

-- ---- shapes

abbrev pub unlike : Row → Row → Bool
unlike w v = not (same_shape w.1.shape v.1.shape)

-- all from the first that meets a test on
abbrev pub from_first : {A : Type 0} → (A → Bool) → (is_met : Bool) → List A → List A
from_first test b [] = []
from_first test b (x ∷ xs) = cond (b || test x) (x ∷ from_first test true xs) (from_first test false xs)

abbrev pub shapes_unlike : List Row → List FilePlace
shapes_unlike [] = []
shapes_unlike (w ∷ ws) = map row_place (from_first (unlike w) false (w ∷ ws))

-- ---- patterns

abbrev pub same_parent : Option Text → Option Text → Bool
same_parent (Some a) (Some b) = bytes_eq a b
same_parent None None = true
same_parent a b = false

abbrev pub same_pattern : Pattern → Pattern → Bool
same_pattern [] [] = true
same_pattern (a ∷ as_) (b ∷ bs) = same_parent a b && same_pattern as_ bs
same_pattern as_ bs = false

abbrev pub first_parent : List (Option Text) → Option Text
first_parent [] = None
first_parent (None ∷ ps) = first_parent ps
first_parent (Some p ∷ ps) = Some p

-- whether two object types stand among these
abbrev pub is_parted : List (Option Text) → Bool
is_parted ps = list_any (λ p. not (meet (first_parent ps) p)) ps

-- a level at which all meet is left out
abbrev pub own_pattern : (is_parted : Bool) → Pattern → (parent : Option Text) → Pattern
own_pattern true ps p = p ∷ ps
own_pattern false ps p = ps

abbrev pub row_parent : Row → Option Text
row_parent w = w.1.parent

abbrev pub own_row : (is_parted : Bool) → Row → Row
own_row b w = (own_pattern b w.0 w.1.parent, w.1, w.2)

abbrev pub with_pattern : Pattern → Row → Row
with_pattern p w = (p, w.1, w.2)

abbrev pub with_patterns : List Pattern → List Row → List Row
with_patterns [] ws = []
with_patterns (p ∷ ps) [] = []
with_patterns (p ∷ ps) (w ∷ ws) = (p, w.1, w.2) ∷ with_patterns ps ws

-- the fields below the rows, each with the pattern of its row
abbrev pub inner_rows : List Row → List Row
inner_rows [] = []
inner_rows (w ∷ ws) = rows_of w.0 w.2 ++ inner_rows ws
