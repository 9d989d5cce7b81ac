-- The steps of a walk from record to record.
use Rattle.std.specs.Prelude.{◌≡◌, ℕ, Bool, false, ◌&&◌, ◌||◌, List, [], ◌∷◌, ◌++◌, map, bytes_eq, Option, Some, None}
use Rattle.std.specs.FinMap as map
use Rattle.std.specs.List.{list_any}
use Rattle.plan_ir.specs.gql_plain.Order.{has_text}
use Rattle.plan_ir.specs.store_record.Keys.{Text}
use Rattle.plan_ir.specs.store_record.declared.record.Slot.{Slot}
use Rattle.plan_ir.specs.store_record.declared.record.Slot.TheVariants.{Deleted, Alive}
use Rattle.plan_ir.specs.store_model.Reaches.{links_of, links_under}
use Rattle.plan_ir.specs.store_model.Walks.{Fields, Slots, field_of, type_of_record}
use Rattle.store_source.specs.Records.{Records}
use Rattle.store_retain.specs.Ways.{Parts, Way, Road, below_all, roads_of, ways_of}

-- the slots of a map of records
abbrev pub slots_of : Records → Slots
slots_of m = λ id. map.get m id

-- a step to an id: the types that its record may be of, and the numbers of the parts that go on from there
pub record Step : Type 0 where
  pub id : Text
  pub types : List Text
  pub parts : List ℕ

-- where parts go on: at a record of a possible type
abbrev pub Stand : Type 0
Stand = Text × List ℕ

-- ---- along ways

abbrev pub steps_to : List Text → List ℕ → List Text → List Step
steps_to types ks ids = map (λ id. record { id = id; types = types; parts = ks }) ids

-- the links under a way's own key, and those of its connection
abbrev pub way_links : Fields → Way → List Text
way_links fields w = links_of (fields w.key) ++ links_under fields w.handle

abbrev pub way_steps : Fields → List ℕ → Way → List Step
way_steps fields ks w = steps_to w.types ks (way_links fields w)

abbrev pub ways_steps : Fields → List ℕ → List Way → List Step
ways_steps fields ks [] = []
ways_steps fields ks (w ∷ ws) = way_steps fields ks w ++ ways_steps fields ks ws

-- the same steps, in whatever order and however often
abbrev pub Alike : List Step → List Step → Type 0
Alike xs ys = (p : Step → Bool) → list_any p xs ≡ list_any p ys

-- both lead from each record to the same steps, whatever goes on from there
abbrev pub LeadAlike : List Way → List Way → Type 0
LeadAlike vs ws = (fields : Fields) (ks : List ℕ) → Alike (ways_steps fields ks vs) (ways_steps fields ks ws)

-- every way of a road is followed, and all that stands below the road goes on from each link
abbrev pub road_steps : Fields → Road → List Step
road_steps fields r = ways_steps fields (below_all r.ways) r.ways

abbrev pub roads_steps : Fields → List Road → List Step
roads_steps fields [] = []
roads_steps fields (r ∷ rs) = road_steps fields r ++ roads_steps fields rs

-- ---- from records

abbrev pub row_steps : Parts → List ℕ → Text → Fields → List Step
row_steps ps ks T fields = roads_steps fields (roads_of (ways_of ps T ks))

-- the steps from a slot, by parts; root is the root type of the operation
abbrev pub slot_steps : Text → Parts → List ℕ → Option Slot → List Step
slot_steps root ps ks None = []
slot_steps root ps ks (Some Deleted) = []
slot_steps root ps ks (Some (Alive r)) = row_steps ps ks (type_of_record root r.type_name) (field_of (Some (Alive r)))

abbrev pub stand_steps : Slots → Text → Parts → Stand → List Step
stand_steps m root ps s = slot_steps root ps s.1 (m s.0)

abbrev pub stands_steps : Slots → Text → Parts → List Stand → List Step
stands_steps m root ps [] = []
stands_steps m root ps (s ∷ ss) = stand_steps m root ps s ++ stands_steps m root ps ss

-- whether the record of a slot is live and of a possible type
abbrev pub is_possible : Text → List Text → Option Slot → Bool
is_possible root types None = false
is_possible root types (Some Deleted) = false
is_possible root types (Some (Alive r)) = has_text types (type_of_record root r.type_name)

-- ---- what is found

-- the ids stood at, and where the walk goes on
pub record Found : Type 0 where
  pub ids : List Text
  pub next : List Stand

-- what is found after steps: their ids, and the records of a possible type, each with the parts that go on
pub record Follows (m : Slots) (root : Text) (old new : Found) (steps : List Step) : Type 0 where
  pub ids : (j : Text) → has_text new.ids j ≡ (has_text old.ids j || list_any (λ s. bytes_eq s.id j) steps)
  pub next : (p : Stand → Bool) → list_any p new.next ≡ (list_any p old.next || list_any (λ s. is_possible root s.types (m s.id) && p (s.id, s.parts)) steps)
