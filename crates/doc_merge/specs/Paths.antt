-- The same pairs of fields, flat: each field of a set with the fields around it, and which of them differ from an earlier one.
use Rattle.std.specs.Prelude.{Bool, true, false, ◌&&◌, List, [], ◌∷◌, ◌++◌, map, Option, bytes_eq}
use Rattle.std.specs.List.{filter}
use Rattle.plan_ir.specs.gql_ast.declared.place.FilePlace.{FilePlace}
use Rattle.plan_ir.specs.schema_tables.Types.{Text}
use Rattle.doc_merge.specs.Merging.{Field, Fields, no_fields, field, meet, differ}

-- a field with the fields around it, the outermost first
pub data Path : Type 0 where
  here : Field → Path
  under : Field → Path → Path

abbrev pub place_of : Path → FilePlace
place_of (here a) = a.place
place_of (under a s) = place_of s

abbrev pub paths : Fields → List Path
paths no_fields = []
paths (field a below next) = here a ∷ (map (under a) (paths below) ++ paths next)

-- the response keys agree one by one, and the two fields differ in what must be the same
abbrev pub conflict : (merging : Bool) → Path → Path → Bool
conflict merging (here a) (here b) = bytes_eq a.key b.key && differ (merging && meet a.parent b.parent) a b
conflict merging (under a s) (under b t) = bytes_eq a.key b.key && conflict (merging && meet a.parent b.parent) s t
conflict merging (here a) (under b t) = false
conflict merging (under a s) (here b) = false

-- those that are in conflict with an earlier one
abbrev pub faulty : {A : Type 0} → (A → A → Bool) → List A → List A
faulty c [] = []
faulty c (x ∷ xs) = filter (c x) xs ++ faulty c xs

-- ---- with the object types around a set, or none, the innermost first

abbrev pub Pattern : Type 0
Pattern = List (Option Text)

abbrev pub all_meet : Pattern → Pattern → Bool
all_meet [] bs = true
all_meet (a ∷ as_) [] = true
all_meet (a ∷ as_) (b ∷ bs) = meet a b && all_meet as_ bs

abbrev pub Item : Type 0
Item = Pattern × Path

abbrev pub clash : Item → Item → Bool
clash x y = conflict (all_meet x.0 y.0) x.1 y.1

abbrev pub item_place : Item → FilePlace
item_place x = place_of x.1

-- a field of a joined set: the object types around its own set, and the fields below it
abbrev pub Row : Type 0
Row = Pattern × Field × Fields

abbrev pub items_of_row : Row → List Item
items_of_row w = (w.0, here w.1) ∷ map (λ (s : Path). (w.0, under w.1 s)) (paths w.2)

abbrev pub items : List Row → List Item
items [] = []
items (w ∷ ws) = items_of_row w ++ items ws

abbrev pub rows_of : Pattern → Fields → List Row
rows_of ps no_fields = []
rows_of ps (field a below next) = (ps, a, below) ∷ rows_of ps next

-- the places of the faults in a joined set, and in all sets below it
abbrev pub places_of : List Row → List FilePlace
places_of ws = map item_place (faulty clash (items ws))
