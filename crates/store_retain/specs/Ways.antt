-- What a walk follows from the records of a plan (this project's own).
use Rattle.std.specs.Prelude.{ℕ, Bool, true, ◌&&◌, List, [], ◌∷◌, ◌++◌, map, cond, bytes_eq, get_or, Option, Some, None}
use Rattle.std.specs.Option.{option_eq}
use Rattle.plan_ir.specs.gql_plain.Equal.{texts_eq}
use Rattle.plan_ir.specs.gql_plain.Order.{has_text}
use Rattle.plan_ir.specs.store_record.Keys.{Text}

-- a field that is followed: the object types that it is asked of, none where of every one; its response key; the key that it is
-- stored under, and that of its connection; the possible types of what it leads to; the number of the part that stands below
pub record Way : Type 0 where
  pub on : Option (List Text)
  pub response : Text
  pub key : Text
  pub handle : Option Text
  pub types : List Text
  pub below : ℕ

-- the ways of each part, by its number
abbrev pub Parts : Type 0
Parts = List (List Way)

abbrev pub ways_in : Parts → ℕ → List Way
ways_in ps k = get_or ps k []

-- ---- object types

abbrev pub is_on : Option (List Text) → Text → Bool
is_on None T = true
is_on (Some ts) T = has_text ts T

-- the ways that are asked of an object type
abbrev pub ways_on : Text → List Way → List Way
ways_on T [] = []
ways_on T (w ∷ ws) = cond (is_on w.on T) (w ∷ ways_on T ws) (ways_on T ws)

-- those of parts, one part after another
abbrev pub ways_of : Parts → Text → List ℕ → List Way
ways_of ps T [] = []
ways_of ps T (k ∷ ks) = ways_on T (ways_in ps k) ++ ways_of ps T ks

-- ---- ways that lead to the same

-- whether both lead from each record to the same links, with the same possible types
abbrev pub is_like : Way → Way → Bool
is_like v w = bytes_eq v.key w.key && option_eq bytes_eq v.handle w.handle && texts_eq v.types w.types

-- ---- response keys

-- the ways of one response key
pub record Road : Type 0 where
  pub response : Text
  pub ways : List Way

-- the roads with a way at the end of its road
abbrev pub with_way : List Road → Way → List Road
with_way [] w = record { response = w.response; ways = w ∷ [] } ∷ []
with_way (r ∷ rs) w = cond (bytes_eq r.response w.response) (record { response = r.response; ways = r.ways ++ w ∷ [] } ∷ rs) (r ∷ with_way rs w)

abbrev pub roads_onto : List Road → List Way → List Road
roads_onto rs [] = rs
roads_onto rs (w ∷ ws) = roads_onto (with_way rs w) ws

-- the roads of ways, in order of first response key
abbrev pub roads_of : List Way → List Road
roads_of ws = roads_onto [] ws

-- the numbers of what stands below ways
abbrev pub below_all : List Way → List ℕ
below_all ws = map (λ w. w.below) ws
