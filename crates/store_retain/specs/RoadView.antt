-- Roads as they are kept, and where they stand.
use Rattle.std.specs.Prelude.{◌≡◌, ℕ, zero, suc, List, [], ◌∷◌, ◌++◌, map, bytes_eq, Option}
use Rattle.std.specs.BTreeMap.{get_by}
use Rattle.std.specs.Cmp.Lexicographic.{slice_cmp}
use Rattle.std.specs.Ordering.{nat_cmp}
use Rattle.std.specs.declared.alloc.Global.{Global}
use Rattle.std.specs.declared.vec.Vec.{Vec}
use Rattle.plan_ir.specs.schema_tables.Places.{first_at}
use Rattle.plan_ir.specs.store_record.Keys.{Text}
use Rattle.store_retain.specs.TrailView.{way_at, way_of}
use Rattle.store_retain.specs.Ways as ways
use Rattle.store_retain.specs.Ways.{Parts, Way}
use Rattle.store_retain.specs.declared.roads.Gathered.{Gathered}
use Rattle.store_retain.specs.declared.roads.Road.{Road}
use Rattle.store_retain.specs.declared.trail.Trail.{Trail}

abbrev pub road_of : Road → ways.Road
road_of r = record { response = r.response.now; ways = map way_at r.trails.items }

abbrev pub roads_in : Gathered → List ways.Road
roads_in g = map road_of g.roads.items

abbrev pub part_of : Vec Trail Global → List Way
part_of trails = map way_of trails.items

abbrev pub table_of : List (Vec Trail Global) → Parts
table_of parts = map part_of parts

-- the place of the road of a response key
abbrev pub place_of : List ways.Road → Text → Option ℕ
place_of rs n = first_at (λ r. bytes_eq r.response n) rs

-- each response key has the place of its road
abbrev pub IsPlaced : Gathered → Type 0
IsPlaced g = (n : Text) → get_by (λ k. slice_cmp nat_cmp n k.now) g.places ≡ place_of (roads_in g) n

abbrev pub with_other : ways.Road → Way → ways.Road
with_other r w = record { response = r.response; ways = r.ways ++ w ∷ [] }

-- the roads with a way at the end of the road at a place
abbrev pub put_at : ℕ → List ways.Road → Way → List ways.Road
put_at i [] w = []
put_at zero (r ∷ rs) w = with_other r w ∷ rs
put_at (suc i) (r ∷ rs) w = r ∷ put_at i rs w
