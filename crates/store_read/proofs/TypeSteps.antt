-- A record of a type is read by what the cache has for the type.
use Rattle.std.proofs.Common.{◌≡◌, ℕ, zero, suc, ◌+◌, ◌-◌, ◌*◌, ◌<◌, ◌≤◌, true, false, List, [], ◌∷◌, map, drop, length, get_or, subst, Some, None, sym, ap, ◌∙◌, max, arith}
use Rattle.plan_ir.specs.gql_plain.Order.{has_text}
use Rattle.plan_ir.specs.ReaderMeaning.{ReaderPart, collect_reader}
use Rattle.plan_ir.specs.store_model.Items.{groups_at, pointers_on}
use Rattle.plan_ir.specs.store_model.Walks.{Fields, Found, Next, field_of, missing_trace, object_at, shown_object, type_of_record}
use Rattle.store_read.proofs.WalkSteps.{object_data, object_stood, object_trace}
use Rattle.store_read.specs.CacheFalls.{group_levels, groups_within, pointer_levels, pointers_within}
use Rattle.store_read.proofs.CacheSteps.{right_at, type_name}
use Rattle.store_read.specs.CacheView.{AreRight, IsRight, IsTypeAt, group_view, pointer_view}
use Rattle.store_read.specs.Caching.{Caching, ReadGroup, ReadPointer, read_group, read_pointer}
use Rattle.store_read.specs.Meeting.{Meeting, met_onto}
use Rattle.store_read.specs.Walked.{if_possible, live_read, object_read, reads}
use Rattle.store_read.specs.declared.cache.TypeItems.{TypeItems}
use Rattle.plan_ir.specs.store_record.Keys.{Text}
use Rattle.plan_ir.specs.store_record.declared.record.Record.{Record}
use Rattle.plan_ir.specs.store_record.declared.record.Slot.TheVariants.{Alive}
use Rattle.store_source.specs.Records.{Records}

-- ---- levels

left_levels : (gs : List ReadGroup) (i : ℕ) → group_levels (drop i gs) ≤ group_levels gs
left_levels [] zero = omega arith
left_levels [] (suc i) = omega arith
left_levels (g ∷ gs) zero = omega arith
left_levels (g ∷ gs) (suc i) = omega (arith, left_levels gs i)

pub group_within : (gs : List ReadGroup) (i : ℕ) (v : ReadGroup) → drop i gs ≡ v ∷ drop (i + 1) gs → v.below.levels ≤ group_levels gs
group_within gs i v is = omega (arith, left_levels gs i, ap group_levels is)

left_pointers : (ps : List ReadPointer) (i : ℕ) → pointer_levels (drop i ps) ≤ pointer_levels ps
left_pointers [] zero = omega arith
left_pointers [] (suc i) = omega arith
left_pointers (p ∷ ps) zero = omega arith
left_pointers (p ∷ ps) (suc i) = omega (arith, left_pointers ps i)

pub pointer_within : (ps : List ReadPointer) (i : ℕ) (v : ReadPointer) → drop i ps ≡ v ∷ drop (i + 1) ps → v.below.levels ≤ pointer_levels ps
pointer_within ps i v is = omega (arith, left_pointers ps i, ap pointer_levels is)

-- what lies below a type has fewer levels
pub items_within : (parts : List ReaderPart) (levels : ℕ) (t : TypeItems) → IsRight parts levels t
    → 10 * max (group_levels (map group_view t.groups.items)) (pointer_levels (map pointer_view t.pointers.items)) + 11 < 10 * levels + 2
items_within parts levels t right =
    let g : group_levels (map (read_group (levels - 1)) (groups_at collect_reader t.name.now parts)) ≤ levels - 1 = groups_within (levels - 1) (groups_at collect_reader t.name.now parts) in
    let p : pointer_levels (map (read_pointer (levels - 1)) (pointers_on collect_reader t.name.now parts)) ≤ levels - 1 = pointers_within (levels - 1) (pointers_on collect_reader t.name.now parts) in
    omega (arith, g, p, ap group_levels right.groups, ap pointer_levels right.pointers, right.some)

-- ---- a record of a type

module _ (next : ℕ → Next ReaderPart) (owner T id : Text) (fields : Fields) (parts qs : List ReaderPart) (same : qs ≡ parts) (levels : ℕ) (t : TypeItems) (right : IsRight qs levels t) (named : t.name.now ≡ T) where
  told_is : object_read next owner t.name.now t.itself id fields (map group_view t.groups.items) (map pointer_view t.pointers.items)
      ≡ object_read next owner T (T ∷ []) id fields (map (read_group (levels - 1)) (groups_at collect_reader T parts)) (map (read_pointer (levels - 1)) (pointers_on collect_reader T parts))
  told_is = λ i.
      object_read next owner (named i) ((right.itself ∙ ap (λ n. n ∷ []) named) i) id fields
      ((right.groups ∙ (λ j. map (read_group (levels - 1)) (groups_at collect_reader (named j) (same j)))) i)
      ((right.pointers ∙ (λ j. map (read_pointer (levels - 1)) (pointers_on collect_reader (named j) (same j)))) i)

  pub typed_data : (object_read next owner t.name.now t.itself id fields (map group_view t.groups.items) (map pointer_view t.pointers.items)).0 ≡ (object_at collect_reader owner (next (levels - 1)) T parts id fields).0
  typed_data = ap (λ r. r.0) told_is ∙ object_data next (levels - 1) T id owner fields parts

  pub typed_trace : (m : Meeting)
      → met_onto m (object_read next owner t.name.now t.itself id fields (map group_view t.groups.items) (map pointer_view t.pointers.items)).1 ≡ met_onto m (object_at collect_reader owner (next (levels - 1)) T parts id fields).1
  typed_trace m = ap (λ r. met_onto m r.1) told_is ∙ object_trace next (levels - 1) T id owner fields parts m

  pub typed_stood : length (object_read next owner t.name.now t.itself id fields (map group_view t.groups.items) (map pointer_view t.pointers.items)).1.seen ≡ length (object_at collect_reader owner (next (levels - 1)) T parts id fields).1.seen
  typed_stood = ap (λ r. length r.1.seen) told_is ∙ object_stood next (levels - 1) T id owner fields parts

-- ---- whether the type is possible

module _ (m : Records) (root owner : Text) (c : Caching) (types : List Text) (id : Text) (r : Record) where
  pub live_other : has_text types (type_of_record root r.type_name) ≡ false → live_read m root owner c types id r ≡ (None, missing_trace)
  live_other e = ap (λ b. if_possible b (object_at collect_reader owner (reads m root owner (c.levels - 1)) (type_of_record root r.type_name) c.parts id (field_of (Some (Alive r))))) e

  pub live_same : has_text types (type_of_record root r.type_name) ≡ true
      → live_read m root owner c types id r
      ≡ (
        Some (shown_object (object_at collect_reader owner (reads m root owner (c.levels - 1)) (type_of_record root r.type_name) c.parts id (field_of (Some (Alive r)))).0),
        (object_at collect_reader owner (reads m root owner (c.levels - 1)) (type_of_record root r.type_name) c.parts id (field_of (Some (Alive r)))).1,
      )
  live_same e = ap (λ b. if_possible b (object_at collect_reader owner (reads m root owner (c.levels - 1)) (type_of_record root r.type_name) c.parts id (field_of (Some (Alive r))))) e

module _ (m : Records) (root owner : Text) (c : Caching) (types : List Text) (id : Text) (r : Record) (qs : List ReaderPart) (levels : ℕ) (ts : List TypeItems) (at : ℕ) (x : TypeItems) (name : Text)
    (is : name ≡ type_of_record root r.type_name) (possible : has_text types name ≡ true) (right : AreRight qs levels ts) (place : IsTypeAt ts at name) (there : x ≡ get_or ts at x) (same : qs ≡ c.parts) (same_levels : levels ≡ c.levels) where
  pub live_shown : Some (shown_object (object_read (reads m root owner) owner x.name.now x.itself id (field_of (Some (Alive r))) (map group_view x.groups.items) (map pointer_view x.pointers.items)).0) ≡ (live_read m root owner c types id r).0
  live_shown =
      ap (λ ms. Some (shown_object ms)) (typed_data (reads m root owner) owner (type_of_record root r.type_name) id (field_of (Some (Alive r))) c.parts qs same c.levels x
      (subst (λ n. IsRight qs n x) same_levels (right_at qs levels ts at x name right place there)) (type_name ts at x name place there ∙ is))
      ∙ sym (ap (λ (f : Found). f.0) (live_same m root owner c types id r (ap (has_text types) (sym is) ∙ possible)))

  pub live_trace : (n : Meeting)
      → met_onto n (object_read (reads m root owner) owner x.name.now x.itself id (field_of (Some (Alive r))) (map group_view x.groups.items) (map pointer_view x.pointers.items)).1 ≡ met_onto n (live_read m root owner c types id r).1
  live_trace n =
      typed_trace (reads m root owner) owner (type_of_record root r.type_name) id (field_of (Some (Alive r))) c.parts qs same c.levels x
      (subst (λ n. IsRight qs n x) same_levels (right_at qs levels ts at x name right place there)) (type_name ts at x name place there ∙ is) n
      ∙ sym (ap (λ (f : Found). met_onto n f.1) (live_same m root owner c types id r (ap (has_text types) (sym is) ∙ possible)))

  pub live_stood : length (object_read (reads m root owner) owner x.name.now x.itself id (field_of (Some (Alive r))) (map group_view x.groups.items) (map pointer_view x.pointers.items)).1.seen ≡ length (live_read m root owner c types id r).1.seen
  live_stood =
      typed_stood (reads m root owner) owner (type_of_record root r.type_name) id (field_of (Some (Alive r))) c.parts qs same c.levels x
      (subst (λ n. IsRight qs n x) same_levels (right_at qs levels ts at x name right place there)) (type_name ts at x name place there ∙ is)
      ∙ sym (ap (λ (f : Found). length f.1.seen) (live_same m root owner c types id r (ap (has_text types) (sym is) ∙ possible)))
