-- What is followed, as it is kept.
use Rattle.std.specs.Prelude.{◌≡◌, ℕ, zero, suc, List, [], ◌∷◌, ◌++◌, map, Option, Some, None}
use Rattle.std.specs.List.{AllByRecursion}
use Rattle.plan_ir.specs.store_model.Walks.{Fields}
use Rattle.plan_ir.specs.store_record.Keys.{Text}
use Rattle.store_retain.specs.Steps.{Alike, Step, road_steps, roads_steps, row_steps, ways_steps}
use Rattle.store_retain.specs.TrailView.{way_at}
use Rattle.store_retain.specs.Ways.{Parts, Road}
use Rattle.store_retain.specs.declared.paths.Path.{Path}
use Rattle.store_retain.specs.declared.paths.Paths.{Paths}

abbrev pub path_steps : Fields → Path → List Step
path_steps fields p = ways_steps fields p.numbers.items (map way_at p.trails.items)

abbrev pub paths_steps : Fields → List Path → List Step
paths_steps fields [] = []
paths_steps fields (p ∷ ps) = path_steps fields p ++ paths_steps fields ps

-- ---- paths of roads

abbrev pub IsPathOf : Path → Road → Type 0
IsPathOf p r = (fields : Fields) → Alike (path_steps fields p) (road_steps fields r)

abbrev pub ArePathsOf : List Path → List Road → Type 0
ArePathsOf ps rs = (fields : Fields) → Alike (paths_steps fields ps) (roads_steps fields rs)

-- ---- paths that were made

-- they lead to the same as the parts, from records of the type
abbrev pub IsRight : Parts → Paths → Type 0
IsRight parts p = (fields : Fields) → Alike (paths_steps fields p.paths.items) (row_steps parts p.numbers.now p.object.now fields)

abbrev pub AreRight : Parts → List Paths → Type 0
AreRight parts ps = AllByRecursion (IsRight parts) ps

abbrev pub IsFor : Paths → Text → List ℕ → Type 0
IsFor p T ks = (p.object.now ≡ T) × (p.numbers.now ≡ ks)

-- those of a type and of parts stand at a place
abbrev pub IsMadeAt : List Paths → ℕ → Text → List ℕ → Type 0
IsMadeAt [] at T ks = ⊥
IsMadeAt (p ∷ ps) zero T ks = IsFor p T ks
IsMadeAt (p ∷ ps) (suc at) T ks = IsMadeAt ps at T ks

-- the same, where a place is given
abbrev pub IsPlaceOf : List Paths → Text → List ℕ → Option ℕ → Type 0
IsPlaceOf ps T ks None = Unit {0}
IsPlaceOf ps T ks (Some at) = IsMadeAt ps at T ks
