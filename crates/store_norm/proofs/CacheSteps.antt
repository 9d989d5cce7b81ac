-- Steps of finding and making the groups of a type.
use Rattle.std.proofs.Common.{◌≡◌, ℕ, zero, suc, ◌<◌, List, [], ◌∷◌, ◌++◌, length, get_or, subst, refl, sym, ap, ◌∙◌, arith}
use Rattle.std.proofs.lemmas.List.{length-map, with_items_is}
use Rattle.std.specs.List.{AllByRecursion}
use Rattle.std.specs.Vec.{with_items}
use Rattle.plan_ir.specs.NormalMeaning.{Plan, collect_plan}
use Rattle.plan_ir.specs.store_model.Items.{Group, groups_at}
use Rattle.store_norm.specs.CacheView.{AreRight, IsRight, IsSame, IsTypeAt}
use Rattle.store_norm.specs.Caching.{Caching, caches, parts_below, parts_of, plans_of, room}
use Rattle.store_norm.proofs.CacheRoom.{caches_low}
use Rattle.store_norm.specs.declared.cache.TypeGroups.{TypeGroups}
use Rattle.plan_ir.specs.store_record.Keys.{Text}

pub type_within : (ts : List TypeGroups) (at : ℕ) (name : Text) → IsTypeAt ts at name → at < length ts
type_within [] at name e = absurd e
type_within (t ∷ ts) zero name e = omega arith
type_within (t ∷ ts) (suc at) name e = omega (arith, type_within ts at name e)

pub type_found : (ts : List TypeGroups) (at : ℕ) (x : TypeGroups) (name : Text) → at < length ts → x ≡ get_or ts at x → x.name.now ≡ name → IsTypeAt ts at name
type_found [] at x name within is e = absurd (omega (arith, within))
type_found (t ∷ ts) zero x name within is e = ap (λ (u : TypeGroups). u.name.now) (sym is) ∙ e
type_found (t ∷ ts) (suc at) x name within is e = type_found ts at x name (omega (arith, within)) is e

pub type_last : (ts : List TypeGroups) (t : TypeGroups) (name : Text) → t.name.now ≡ name → IsTypeAt (ts ++ t ∷ []) (length ts) name
type_last [] t name e = e
type_last (u ∷ ts) t name e = type_last ts t name e

pub type_name : (ts : List TypeGroups) (at : ℕ) (x : TypeGroups) (name : Text) → IsTypeAt ts at name → x ≡ get_or ts at x → x.name.now ≡ name
type_name [] at x name e is = absurd e
type_name (t ∷ ts) zero x name e is = ap (λ (u : TypeGroups). u.name.now) is ∙ e
type_name (t ∷ ts) (suc at) x name e is = type_name ts at x name e is

pub right_at : (ps : List Plan) (ts : List TypeGroups) (at : ℕ) (x : TypeGroups) (name : Text) → AreRight ps ts → IsTypeAt ts at name → x ≡ get_or ts at x → IsRight ps x
right_at ps [] at x name right e is = absurd e
right_at ps (t ∷ ts) zero x name right e is = subst (IsRight ps) (sym is) right.0
right_at ps (t ∷ ts) (suc at) x name right e is = right_at ps ts at x name right.1 e is

pub right_last : (ps : List Plan) (ts : List TypeGroups) (t : TypeGroups) → AreRight ps ts → IsRight ps t → AreRight ps (ts ++ t ∷ [])
right_last ps [] t right last = (last, tt)
right_last ps (u ∷ ts) t right last = (right.0, right_last ps ts t right.1 last)

pub plans_of-caches : (gs : List (Group Plan)) → plans_of (caches gs) ≡ parts_of gs
plans_of-caches [] = refl
plans_of-caches (g ∷ gs) = ap (λ ps. parts_below g ∷ ps) (plans_of-caches gs)

-- what is made for a type, with nothing below yet
pub right_made : (ps : List Plan) (t : TypeGroups) → t.groups ≡ groups_at collect_plan t.name.now ps → t.below.items ≡ caches t.groups → IsRight ps t
right_made ps t groups made = record {
  groups = groups;
  below = ap plans_of made ∙ plans_of-caches t.groups;
  fewer = subst (AllByRecursion (λ (c : Caching). room c.parts < room ps)) (sym (made ∙ ap caches groups)) (caches_low ps t.name.now);
}

abbrev first_plans : List (List Plan) → List Plan
first_plans [] = []
first_plans (ps ∷ rest) = ps

abbrev rest_plans : List (List Plan) → List (List Plan)
rest_plans [] = []
rest_plans (ps ∷ rest) = rest

same_length : (cs : List Caching) (gs : List (Group Plan)) → plans_of cs ≡ parts_of gs → length cs ≡ length gs
same_length cs gs same = sym (length-map cs (λ (c : Caching). c.parts)) ∙ ap length same ∙ length-map gs (λ (g : Group Plan). parts_below g)

-- what lies below a group is for the plans that are asked there
pub plans_at : (cs : List Caching) (gs : List (Group Plan)) (at : ℕ) (d : Caching) (g : Group Plan) → plans_of cs ≡ parts_of gs → at < length gs → g ≡ get_or gs at g → (get_or cs at d).parts ≡ parts_below g
plans_at [] gs at d g same inside is = absurd (omega (arith, inside, same_length [] gs same))
plans_at (c ∷ cs) [] at d g same inside is = absurd (omega (arith, inside))
plans_at (c ∷ cs) (h ∷ gs) zero d g same inside is = ap first_plans same ∙ sym (ap (λ (x : Group Plan). parts_below x) is)
plans_at (c ∷ cs) (h ∷ gs) (suc at) d g same inside is = plans_at cs gs at d g (ap rest_plans same) (omega (arith, inside)) is

-- what lies below is as it was
pub same_type : (t : TypeGroups) (cs : List Caching) → cs ≡ t.below.items → IsSame t (record { name = t.name; groups = t.groups; below = with_items t.below cs })
same_type t cs e = record { name = refl; groups = refl; below = with_items_is t.below cs (ap length e ∙ sym t.below.ok.0) ∙ e }
