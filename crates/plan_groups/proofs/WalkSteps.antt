-- Steps of the walks over plans and their steps.
use Rattle.std.proofs.Common.{◌≡◌, ℕ, zero, suc, ◌+◌, ◌<◌, ◌≤◌, cond, List, [], ◌∷◌, ◌++◌, map, drop, length, get_or, add-one, refl, ap, sym, ◌∙◌, arith}
use Rattle.std.proofs.Math.Seq.{drop-cons}
use Rattle.std.proofs.lemmas.List.{append-nil}
use Rattle.plan_ir.specs.Normal.{Normal, depth}
use Rattle.plan_ir.specs.NormalMeaning.{Plan, collect_plan, collect_steps, guard_passes}
use Rattle.plan_ir.specs.NormalView.{step_before, step_of, steps_of}
use Rattle.plan_ir.specs.declared.guard.Guard.{Guard}
use Rattle.plan_ir.specs.declared.normal.NormalPlan.{NormalPlan}
use Rattle.plan_ir.specs.declared.normal.NormalStep.{NormalStep}
use Rattle.plan_ir.specs.declared.normal.NormalStep.TheVariants as N
use Rattle.plan_groups.proofs.PutSteps.{grouped_next}
use Rattle.plan_groups.specs.FieldView.{plan_at}
use Rattle.plan_groups.specs.declared.field.PlanAt.{PlanAt}
use Rattle.plan_ir.specs.schema_tables.Types.{Text}
use Rattle.plan_ir.specs.schema_types.Environments.{Values}
use Rattle.plan_ir.specs.store_model.Items.{Group, Item, asked_of, collect_all, grouped_onto}

-- ---- depths

before_deep : (x : NormalStep) (t : Normal) → depth (step_of x) ≤ depth (step_before x t)
before_deep (N.Typename r) t = omega arith
before_deep (N.Leaf r n xs) t = omega arith
before_deep (N.Object r n xs m ts is o c child) t = omega arith
before_deep (N.Guarded g child) t = omega arith

rest_deep : (x : NormalStep) (t : Normal) → depth t ≤ depth (step_before x t)
rest_deep (N.Typename r) t = omega arith
rest_deep (N.Leaf r n xs) t = omega arith
rest_deep (N.Object r n xs m ts is o c child) t = omega arith
rest_deep (N.Guarded g child) t = omega arith

step_deep : (xs : List NormalStep) (i : ℕ) (d : NormalStep) → i < length xs → depth (step_of (get_or xs i d)) ≤ depth (steps_of xs)
step_deep [] i d h = absurd (omega arith)
step_deep (x ∷ xs) zero d h = before_deep x (steps_of xs)
step_deep (x ∷ xs) (suc i) d h =
    let e : depth (step_of (get_or xs i d)) ≤ depth (steps_of xs) = step_deep xs i d (omega arith) in
    omega (arith, e, rest_deep x (steps_of xs))

-- a step is at most as deep as the plan that it stands in
pub step_below : (xs : List NormalStep) (whole : Normal) (i : ℕ) (x : NormalStep) → i < length xs → x ≡ get_or xs i x → steps_of xs ≡ whole → depth (step_of x) ≤ depth whole
step_below xs whole i x h is e =
    let held : depth (step_of (get_or xs i x)) ≤ depth (steps_of xs) = step_deep xs i x h in
    omega (arith, held, ap (λ (y : NormalStep). depth (step_of y)) is, ap depth e)

pub guarded_deep : (x : NormalStep) (g : Guard) (child : NormalPlan) → x ≡ N.Guarded g child → depth child.steps < depth (step_of x)
guarded_deep x g child e = let deep : depth (step_of x) ≡ depth child.steps + 2 = ap (λ (y : NormalStep). depth (step_of y)) e ∙ omega arith in omega (arith, deep)

-- ---- items

collect_before : (env : Values) (T : Text) (x : NormalStep) (t : Normal) → collect_steps env T (step_before x t) ≡ collect_steps env T (step_of x) ++ collect_steps env T t
collect_before env T (N.Typename r) t = refl
collect_before env T (N.Leaf r n xs) t = refl
collect_before env T (N.Object r n xs m ts is o c child) t = refl
collect_before env T (N.Guarded g child) t = ap (λ (xs : List (Item Plan)). xs ++ collect_steps env T t) (sym (append-nil (cond (guard_passes env T g) (collect_steps env T child.steps) [])))

-- one more step
pub steps_next : (env : Values) (T : Text) (xs : List NormalStep) (i : ℕ) (x : NormalStep) (old new whole : List (Group Plan)) → i < length xs → x ≡ get_or xs i x
    → new ≡ grouped_onto old (asked_of (collect_steps env T (step_of x))) → grouped_onto old (asked_of (collect_steps env T (steps_of (drop i xs)))) ≡ whole
    → grouped_onto new (asked_of (collect_steps env T (steps_of (drop (i + 1) xs)))) ≡ whole
steps_next env T xs i x old new whole h is e w =
    let rest : Normal = steps_of (drop (i + 1) xs) in
    let same : drop i xs ≡ get_or xs i x ∷ drop (i + 1) xs = rw add-one (drop-cons xs i x h) in
    ap (λ (gs : List (Group Plan)). grouped_onto gs (asked_of (collect_steps env T rest))) e
    ∙ grouped_next old (collect_steps env T (step_of x)) (collect_steps env T rest)
    ∙ ap (λ (items : List (Item Plan)). grouped_onto old (asked_of items)) (sym (collect_before env T x rest))
    ∙ ap (λ (y : NormalStep). grouped_onto old (asked_of (collect_steps env T (step_before y rest)))) is
    ∙ sym (ap (λ (ys : List NormalStep). grouped_onto old (asked_of (collect_steps env T (steps_of ys)))) same) ∙ w

-- one more plan
pub parts_next : (T : Text) (ps : List PlanAt) (i : ℕ) (p : PlanAt) (old new whole : List (Group Plan)) → i < length ps → p ≡ get_or ps i p
    → new ≡ grouped_onto old (asked_of (collect_plan T (plan_at p))) → grouped_onto old (asked_of (collect_all collect_plan T (map plan_at (drop i ps)))) ≡ whole
    → grouped_onto new (asked_of (collect_all collect_plan T (map plan_at (drop (i + 1) ps)))) ≡ whole
parts_next T ps i p old new whole h is e w =
    let rest : List (Item Plan) = collect_all collect_plan T (map plan_at (drop (i + 1) ps)) in
    let same : drop i ps ≡ get_or ps i p ∷ drop (i + 1) ps = rw add-one (drop-cons ps i p h) in
    ap (λ (gs : List (Group Plan)). grouped_onto gs (asked_of rest)) e
    ∙ grouped_next old (collect_plan T (plan_at p)) rest
    ∙ ap (λ (q : PlanAt). grouped_onto old (asked_of (collect_plan T (plan_at q) ++ rest))) is
    ∙ sym (ap (λ (qs : List PlanAt). grouped_onto old (asked_of (collect_all collect_plan T (map plan_at qs)))) same) ∙ w
