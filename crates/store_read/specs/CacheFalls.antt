-- What lies below a cache has fewer levels.
use Rattle.std.specs.Prelude.{◌≤◌, ◌+◌, ◌-◌, ℕ, List, [], ◌∷◌, map, max}
use Rattle.std.proofs.Common.{ap, arith}
use denote.Param.Weighed.{most}
use Rattle.plan_ir.specs.ReaderMeaning.{ReaderPart, collect_reader}
use Rattle.plan_ir.specs.store_model.Items.{Group, Pointer, groups_at, pointers_on}
use Rattle.store_read.specs.CacheView.{AreRight, group_view, pointer_view}
use Rattle.store_read.specs.Caching.{ReadGroup, ReadPointer, read_group, read_pointer}
use Rattle.store_read.specs.declared.cache.FieldGroup.{FieldGroup}
use Rattle.store_read.specs.declared.cache.PointerAt.{PointerAt}
use Rattle.store_read.specs.declared.cache.TypeItems.{TypeItems}
use Rattle.store_read.specs.declared.cache.Cache.TheDeep.{deep-FieldGroup, deep-PointerAt, deep-TypeItems}

-- the most levels of groups, and of pointers
abbrev pub group_levels : List ReadGroup → ℕ
group_levels [] = 0
group_levels (g ∷ gs) = max g.below.levels (group_levels gs)

abbrev pub pointer_levels : List ReadPointer → ℕ
pointer_levels [] = 0
pointer_levels (p ∷ ps) = max p.below.levels (pointer_levels ps)

groups_deep : (gs : List FieldGroup) → most deep-FieldGroup gs ≤ group_levels (map group_view gs) + 1
groups_deep [] = omega arith
groups_deep (g ∷ gs) = omega (arith, groups_deep gs)

pointers_deep : (ps : List PointerAt) → most deep-PointerAt ps ≤ pointer_levels (map pointer_view ps) + 1
pointers_deep [] = omega arith
pointers_deep (p ∷ ps) = omega (arith, pointers_deep ps)

pub groups_within : (n : ℕ) (gs : List (Group ReaderPart)) → group_levels (map (read_group n) gs) ≤ n
groups_within n [] = omega arith
groups_within n (g ∷ gs) = omega (arith, groups_within n gs)

pub pointers_within : (n : ℕ) (ps : List (Pointer ReaderPart)) → pointer_levels (map (read_pointer n) ps) ≤ n
pointers_within n [] = omega arith
pointers_within n (p ∷ ps) = omega (arith, pointers_within n ps)

pub cache_falls : (ps : List ReaderPart) (levels : ℕ) (ts : List TypeItems) → AreRight ps levels ts → max (most deep-TypeItems ts) 0 ≤ levels
cache_falls ps levels [] right = omega arith
cache_falls ps levels (t ∷ ts) right =
    let rest : max (most deep-TypeItems ts) 0 ≤ levels = cache_falls ps levels ts right.1 in
    let gs : most deep-FieldGroup t.groups.items ≤ group_levels (map group_view t.groups.items) + 1 = groups_deep t.groups.items in
    let qs : most deep-PointerAt t.pointers.items ≤ pointer_levels (map pointer_view t.pointers.items) + 1 = pointers_deep t.pointers.items in
    let g : group_levels (map (read_group (levels - 1)) (groups_at collect_reader t.name.now ps)) ≤ levels - 1 = groups_within (levels - 1) (groups_at collect_reader t.name.now ps) in
    let q : pointer_levels (map (read_pointer (levels - 1)) (pointers_on collect_reader t.name.now ps)) ≤ levels - 1 = pointers_within (levels - 1) (pointers_on collect_reader t.name.now ps) in
    omega (arith, rest, gs, qs, g, q, ap group_levels right.0.groups, ap pointer_levels right.0.pointers, right.0.some)
