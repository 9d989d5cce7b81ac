-- What holds of what a cache has made.
use Rattle.std.specs.Prelude.{◌≡◌, ◌<◌, ◌-◌, ℕ, zero, suc, List, [], ◌∷◌, map, Option, Some, None}
use Rattle.std.specs.List.{AllByRecursion}
use Rattle.plan_groups.specs.FieldView.{form_at}
use Rattle.plan_ir.specs.ReaderMeaning.{ReaderPart, collect_reader}
use Rattle.plan_ir.specs.store_model.Items.{groups_at, pointers_on}
use Rattle.store_read.specs.Caching.{ReadGroup, ReadPointer, read_group, read_pointer}
use Rattle.store_read.specs.declared.cache.FieldGroup.{FieldGroup}
use Rattle.store_read.specs.declared.cache.PointerAt.{PointerAt}
use Rattle.store_read.specs.declared.cache.TypeItems.{TypeItems}
use Rattle.plan_ir.specs.store_record.Keys.{Text}

abbrev pub group_view : FieldGroup → ReadGroup
group_view g = record { response = g.response.now; key = g.key; form = form_at g.form; below = g.below }

abbrev pub pointer_view : PointerAt → ReadPointer
pointer_view p = record { fragment = p.fragment.now; scope = p.scope; inline = p.inline; below = p.body }

-- what is made of a type is what the parts ask, and what lies below has one level less
pub record IsRight (ps : List ReaderPart) (levels : ℕ) (t : TypeItems) : Type 0 where
  pub itself : t.itself ≡ t.name.now ∷ []
  pub groups : map group_view t.groups.items ≡ map (read_group (levels - 1)) (groups_at collect_reader t.name.now ps)
  pub pointers : map pointer_view t.pointers.items ≡ map (read_pointer (levels - 1)) (pointers_on collect_reader t.name.now ps)
  pub some : 0 < levels

abbrev pub AreRight : List ReaderPart → ℕ → List TypeItems → Type 0
AreRight ps levels ts = AllByRecursion (IsRight ps levels) ts

-- the items of a type stand at a place
abbrev pub IsTypeAt : List TypeItems → ℕ → Text → Type 0
IsTypeAt [] at name = ⊥
IsTypeAt (t ∷ ts) zero name = t.name.now ≡ name
IsTypeAt (t ∷ ts) (suc at) name = IsTypeAt ts at name

-- the same, where a place is given
abbrev pub IsPlaceOf : List TypeItems → Text → Option ℕ → Type 0
IsPlaceOf ts name None = Unit {0}
IsPlaceOf ts name (Some at) = IsTypeAt ts at name

-- of one name, with the same groups and pointers
pub record IsSame (t u : TypeItems) : Type 0 where
  pub name : u.name.now ≡ t.name.now
  pub itself : u.itself ≡ t.itself
  pub groups : map group_view u.groups.items ≡ map group_view t.groups.items
  pub pointers : map pointer_view u.pointers.items ≡ map pointer_view t.pointers.items
