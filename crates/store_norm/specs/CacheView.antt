-- What holds of the groups that a cache has.
use Rattle.std.specs.Prelude.{◌≡◌, ◌<◌, ℕ, zero, suc, List, [], ◌∷◌, Option, Some, None}
use Rattle.std.specs.List.{AllByRecursion}
use Rattle.plan_ir.specs.NormalMeaning.{Plan, collect_plan}
use Rattle.plan_ir.specs.store_model.Items.{groups_at}
use Rattle.store_norm.specs.Caching.{Caching, plans_of, parts_of, room}
use Rattle.store_norm.specs.declared.cache.TypeGroups.{TypeGroups}
use Rattle.plan_ir.specs.store_record.Keys.{Text}

-- the groups of a type are those that the plans ask, and what lies below is for them, and less deep
pub record IsRight (ps : List Plan) (t : TypeGroups) : Type 0 where
  pub groups : t.groups ≡ groups_at collect_plan t.name.now ps
  pub below : plans_of t.below.items ≡ parts_of t.groups
  pub fewer : AllByRecursion (λ (c : Caching). room c.parts < room ps) t.below.items

abbrev pub AreRight : List Plan → List TypeGroups → Type 0
AreRight ps ts = AllByRecursion (IsRight ps) ts

-- the groups of a type stand at a place
abbrev pub IsTypeAt : List TypeGroups → ℕ → Text → Type 0
IsTypeAt [] at name = ⊥
IsTypeAt (t ∷ ts) zero name = t.name.now ≡ name
IsTypeAt (t ∷ ts) (suc at) name = IsTypeAt ts at name

-- the same, where a place is given
abbrev pub IsPlaceOf : List TypeGroups → Text → Option ℕ → Type 0
IsPlaceOf ts name None = Unit {0}
IsPlaceOf ts name (Some at) = IsTypeAt ts at name

-- of one name, with the same groups, and the same below
pub record IsSame (t u : TypeGroups) : Type 0 where
  pub name : u.name.now ≡ t.name.now
  pub groups : u.groups ≡ t.groups
  pub below : u.below.items ≡ t.below.items
