-- Steps of finding and making the items of a type.
use Rattle.std.proofs.Common.{◌≡◌, ℕ, zero, suc, ◌-◌, ◌<◌, List, [], ◌∷◌, ◌++◌, map, length, get_or, subst, refl, sym, ap, ◌∙◌, arith}
use Rattle.std.proofs.lemmas.List.{length-map, with_items_is}
use Rattle.std.specs.List.Sorted.{IsStrictlySortedBy}
use Rattle.std.specs.Vec.{with_items}
use Rattle.plan_ir.specs.gql_plain.Order.{AreInOrder}
use Rattle.plan_ir.specs.ReaderMeaning.{ReaderPart, collect_reader}
use Rattle.plan_ir.specs.store_model.Items.{Asked, Group, Pointer, groups_at, pointers_on}
use Rattle.store_read.specs.CacheView.{AreRight, IsRight, IsSame, IsTypeAt, group_view, pointer_view}
use Rattle.store_read.specs.Caching.{read_group, read_pointer}
use Rattle.store_read.specs.FieldView.{asked_at, part_at}
use Rattle.store_read.specs.declared.cache.FieldGroup.{FieldGroup}
use Rattle.store_read.specs.declared.cache.PointerAt.{PointerAt}
use Rattle.store_read.specs.declared.cache.TypeItems.{TypeItems}
use Rattle.store_read.specs.declared.field.FieldAt.{FieldAt}
use Rattle.store_read.specs.declared.field.PartAt.{PartAt}
use Rattle.plan_ir.specs.store_record.Keys.{Text}

pub type_within : (ts : List TypeItems) (at : ℕ) (name : Text) → IsTypeAt ts at name → at < length ts
type_within [] at name e = absurd e
type_within (t ∷ ts) zero name e = omega arith
type_within (t ∷ ts) (suc at) name e = omega (arith, type_within ts at name e)

pub type_found : (ts : List TypeItems) (at : ℕ) (x : TypeItems) (name : Text) → at < length ts → x ≡ get_or ts at x → x.name.now ≡ name → IsTypeAt ts at name
type_found [] at x name within is e = absurd (omega (arith, within))
type_found (t ∷ ts) zero x name within is e = ap (λ (u : TypeItems). u.name.now) (sym is) ∙ e
type_found (t ∷ ts) (suc at) x name within is e = type_found ts at x name (omega (arith, within)) is e

pub type_last : (ts : List TypeItems) (t : TypeItems) (name : Text) → t.name.now ≡ name → IsTypeAt (ts ++ t ∷ []) (length ts) name
type_last [] t name e = e
type_last (u ∷ ts) t name e = type_last ts t name e

pub type_name : (ts : List TypeItems) (at : ℕ) (x : TypeItems) (name : Text) → IsTypeAt ts at name → x ≡ get_or ts at x → x.name.now ≡ name
type_name [] at x name e is = absurd e
type_name (t ∷ ts) zero x name e is = ap (λ (u : TypeItems). u.name.now) is ∙ e
type_name (t ∷ ts) (suc at) x name e is = type_name ts at x name e is

pub right_at : (ps : List ReaderPart) (levels : ℕ) (ts : List TypeItems) (at : ℕ) (x : TypeItems) (name : Text) → AreRight ps levels ts → IsTypeAt ts at name → x ≡ get_or ts at x → IsRight ps levels x
right_at ps levels [] at x name right e is = absurd e
right_at ps levels (t ∷ ts) zero x name right e is = subst (IsRight ps levels) (sym is) right.0
right_at ps levels (t ∷ ts) (suc at) x name right e is = right_at ps levels ts at x name right.1 e is

-- what is made of a type
pub right_made : (ps : List ReaderPart) (levels below : ℕ) (t : TypeItems) (gs : List (Group ReaderPart)) (qs : List (Pointer ReaderPart)) → below ≡ levels - 1 → 0 < levels
    → t.itself ≡ t.name.now ∷ [] → map group_view t.groups.items ≡ map (read_group below) gs → map pointer_view t.pointers.items ≡ map (read_pointer below) qs
    → gs ≡ groups_at collect_reader t.name.now ps → qs ≡ pointers_on collect_reader t.name.now ps → IsRight ps levels t
right_made ps levels below t gs qs less some itself groups pointers asked_there pointed_there = record {
  itself = itself;
  groups = groups ∙ (λ i. map (read_group (less i)) (asked_there i));
  pointers = pointers ∙ (λ i. map (read_pointer (less i)) (pointed_there i));
  some = some;
}

-- a type whose groups, or pointers, are seen the same
pub same_groups : (t : TypeItems) (gs : List FieldGroup) → map group_view gs ≡ map group_view t.groups.items → IsSame t (record { name = t.name; itself = t.itself; groups = with_items t.groups gs; pointers = t.pointers })
same_groups t gs e =
    let long : length gs ≡ length t.groups.items = sym (length-map gs group_view) ∙ ap length e ∙ length-map t.groups.items group_view in
    record { name = refl; itself = refl; groups = ap (map group_view) (with_items_is t.groups gs (long ∙ sym t.groups.ok.0)) ∙ e; pointers = refl }

pub same_items : (t : TypeItems) (gs : List FieldGroup) (qs : List PointerAt) → map group_view gs ≡ map group_view t.groups.items → map pointer_view qs ≡ map pointer_view t.pointers.items
    → IsSame t (record { name = t.name; itself = t.itself; groups = with_items t.groups gs; pointers = with_items t.pointers qs })
same_items t gs qs e f =
    let long : length qs ≡ length t.pointers.items = sym (length-map qs pointer_view) ∙ ap length f ∙ length-map t.pointers.items pointer_view in
    record { name = refl; itself = refl; groups = (same_groups t gs e).groups; pointers = ap (map pointer_view) (with_items_is t.pointers qs (long ∙ sym t.pointers.ok.0)) ∙ f }

-- a type that is the same is right
pub right_same : (ps : List ReaderPart) (levels : ℕ) (t u : TypeItems) → IsRight ps levels t → IsSame t u → IsRight ps levels u
right_same ps levels t u right same = record {
  itself = same.itself ∙ right.itself ∙ ap (λ n. n ∷ []) (sym same.name);
  groups = same.groups ∙ right.groups ∙ ap (λ n. map (read_group (levels - 1)) (groups_at collect_reader n ps)) (sym same.name);
  pointers = same.pointers ∙ right.pointers ∙ ap (λ n. map (read_pointer (levels - 1)) (pointers_on collect_reader n ps)) (sym same.name);
  some = right.some;
}

-- ---- what stands below fields

parts_of_others : (fs : List FieldAt) → map (λ (a : Asked ReaderPart). a.part) (map asked_at fs) ≡ map (λ f. part_at f.part) fs
parts_of_others [] = refl
parts_of_others (f ∷ fs) = ap (λ ps. part_at f.part ∷ ps) (parts_of_others fs)

-- below the first field, and below the others
pub parts_made : (f : FieldAt) (fs gs : List FieldAt) (none first all : List PartAt) → none ≡ [] → first ≡ none ++ f.part ∷ [] → gs ≡ fs → map part_at all ≡ map part_at first ++ map (λ g. part_at g.part) gs
    → map part_at all ≡ part_at f.part ∷ map (λ (a : Asked ReaderPart). a.part) (map asked_at fs)
parts_made f fs gs none first all empty one same whole =
    whole
    ∙ ap (λ (ps : List PartAt). map part_at ps ++ map (λ g. part_at g.part) gs) (one ∙ ap (λ (ps : List PartAt). ps ++ f.part ∷ []) empty)
    ∙ ap (λ (hs : List FieldAt). part_at f.part ∷ map (λ g. part_at g.part) hs) same
    ∙ ap (λ (ps : List ReaderPart). part_at f.part ∷ ps) (sym (parts_of_others fs))

-- one text alone is in order
pub one_ordered : (ts : List Text) (t : Text) → ts ≡ t ∷ [] → AreInOrder ts
unfolding IsStrictlySortedBy
one_ordered ts t e = subst AreInOrder (sym e) (tt, tt)
