-- What stands below a field of a plan is less deep than the plan.
use Rattle.std.proofs.Common.{◌≡◌, ℕ, ◌+◌, ◌<◌, ◌≤◌, Bool, true, false, cond, List, [], ◌∷◌, map, max, arith}
use Rattle.std.specs.List.{AllByRecursion}
use Rattle.plan_ir.proofs.store_model_laws.Least.{Each, each_append, each_so}
use Rattle.plan_ir.proofs.store_model_laws.Seated.{Fits, grouped_fits}
use Rattle.plan_ir.specs.Normal as n
use Rattle.plan_ir.specs.Normal.{Normal, depth}
use Rattle.plan_ir.specs.NormalMeaning.{Plan, collect_plan, collect_steps, guard_passes}
use Rattle.plan_ir.specs.schema_types.Environments.{Values}
use Rattle.plan_ir.specs.store_model.Items.{Asked, Item, asked, pointed, asked_of, collect_all, Group, groups_at, members, parts}
use Rattle.plan_ir.specs.store_record.Keys.{Text}
use Rattle.store_norm.specs.Caching.{Caching, caches, has_objects, parts_below, room}

abbrev IsLow : ℕ → Asked Plan → Type 0
IsLow k a = depth a.part.steps < k

abbrev ItemLow : ℕ → Item Plan → Type 0
ItemLow k (asked a) = IsLow k a
ItemLow k (pointed p) = Unit {0}

low_asked : (k : ℕ) (items : List (Item Plan)) → Each (ItemLow k) items → Each (IsLow k) (asked_of items)
low_asked k [] h = tt
low_asked k (asked a ∷ items) h = (h.0, low_asked k items h.1)
low_asked k (pointed p ∷ items) h = low_asked k items h.1

either_low : (k : ℕ) (b : Bool) (items : List (Item Plan)) → Each (ItemLow k) items → Each (ItemLow k) (cond b items [])
either_low k true items h = h
either_low k false items h = tt

-- ---- the items of steps

steps_low : (k : ℕ) (T : Text) (env : Values) (s : Normal) → depth s ≤ k → Each (ItemLow k) (collect_steps env T s)
steps_low k T env n.done le = tt
steps_low k T env (n.typename r rest) le = (omega (arith, le), steps_low k T env rest (omega (arith, le)))
steps_low k T env (n.leaf r name xs rest) le = (omega (arith, le), steps_low k T env rest (omega (arith, le)))
steps_low k T env (n.object r name xs m ts is o c child rest) le = (omega (arith, le), steps_low k T env rest (omega (arith, le)))
steps_low k T env (n.guarded g child rest) le =
    each_append (ItemLow k) (cond (guard_passes env T g) (collect_steps env T child) []) (collect_steps env T rest)
    (either_low k (guard_passes env T g) (collect_steps env T child) (steps_low k T env child (omega (arith, le))))
    (steps_low k T env rest (omega (arith, le)))

plans_low : (k : ℕ) (T : Text) (ps : List Plan) → room ps ≤ k → Each (ItemLow k) (collect_all collect_plan T ps)
plans_low k T [] le = tt
plans_low k T (p ∷ ps) le =
    each_append (ItemLow k) (collect_plan T p) (collect_all collect_plan T ps) (steps_low k T p.environment p.steps (omega (arith, le))) (plans_low k T ps (omega (arith, le)))

-- ---- what stands below groups

room_low : (k : ℕ) (us : List (Asked Plan)) → 1 ≤ k → Each (IsLow k) us → room (map (λ a. a.part) us) < k
room_low k [] some h = omega (arith, some)
room_low k (u ∷ us) some h = omega (arith, h.0, room_low k us some h.1)

either_room : (k : ℕ) (b : Bool) (ps : List Plan) → 1 ≤ k → room ps < k → room (cond b ps []) < k
either_room k true ps some h = h
either_room k false ps some h = omega (arith, some)

group_low : (k : ℕ) (g : Group Plan) → Fits (IsLow k) g → room (parts_below g) < k
group_low k g fits =
    let some : 1 ≤ k = omega (arith, fits.0) in
    let others : Each (IsLow k) g.others = each_so (λ a. (g.first.ask.response ≡ a.ask.response) × IsLow k a) (IsLow k) g.others (λ a e. e.1) fits.1 in
    either_room k (has_objects g.first.ask.form) (parts g) some (room_low k (members g) some (fits.0, others))

groups_low : (k : ℕ) (gs : List (Group Plan)) → Each (Fits (IsLow k)) gs → AllByRecursion (λ (c : Caching). room c.parts < k) (caches gs)
groups_low k [] h = tt
groups_low k (g ∷ gs) h = (group_low k g h.0, groups_low k gs h.1)

pub caches_low : (ps : List Plan) (T : Text) → AllByRecursion (λ (c : Caching). room c.parts < room ps) (caches (groups_at collect_plan T ps))
caches_low ps T =
    let items : List (Item Plan) = collect_all collect_plan T ps in
    groups_low (room ps) (groups_at collect_plan T ps) (grouped_fits (IsLow (room ps)) items (low_asked (room ps) items (plans_low (room ps) T ps (omega arith))))
