-- Steps one after another: what they give, how deep they go, and that their order does not matter for that.
use Rattle.std.proofs.Common.{◌≡◌, cond, List, [], ◌++◌, append-nil, Some, None, max, refl, sym, ap, subst, ◌∙◌, arith}
use Rattle.plan_ir.specs.NormalMeaning.{guard_passes}
use Rattle.plan_ir.specs.Reader.{Reader}
use Rattle.plan_ir.specs.ReaderMeaning.{ReaderPart, collect_reading, records_below}
use Rattle.plan_ir.specs.ReaderView.{step_before, step_of, steps_of}
use Rattle.plan_ir.specs.declared.reader.ReaderStep.{ReaderStep}
use Rattle.plan_ir.specs.declared.reader.ReaderStep.TheVariants as N
use Rattle.plan_order.proofs.Shuffles.{Shuffle, nothing, next, turned, chained, shuffle-append_left, shuffle-turn}
use Rattle.plan_order.specs.Ordered.{AreInOrderBelow}
use Rattle.plan_ir.specs.schema_tables.Types.{Text}
use Rattle.plan_ir.specs.schema_types.Environments.{Values}
use Rattle.plan_ir.specs.store_model.Items.{Item}

pub items_step : (env : Values) (T : Text) (x : ReaderStep) (s : Reader) → collect_reading env T (step_before x s) ≡ collect_reading env T (step_of x) ++ collect_reading env T s
items_step env T (N.Typename n) s = refl
items_step env T (N.Leaf n name xs) s = refl
items_step env T (N.Object n name xs m ts is o c child) s = refl
items_step env T (N.Guarded g child) s = ap (λ (xs : List (Item ReaderPart)). xs ++ collect_reading env T s) (sym (append-nil (cond (guard_passes env T g) (collect_reading env T child.steps) [])))
items_step env T (N.Pointer f xs None) s = refl
items_step env T (N.Pointer f xs (Some child)) s = refl

pub deep_step : (x : ReaderStep) (s : Reader) → records_below (step_before x s) ≡ max (records_below (step_of x)) (records_below s)
deep_step (N.Typename n) s = omega arith
deep_step (N.Leaf n name xs) s = omega arith
deep_step (N.Object n name xs m ts is o c child) s = omega arith
deep_step (N.Guarded g child) s = omega arith
deep_step (N.Pointer f xs None) s = omega arith
deep_step (N.Pointer f xs (Some child)) s = omega arith

pub below_split : (x : ReaderStep) (s : Reader) → AreInOrderBelow (step_before x s) → AreInOrderBelow (step_of x) × AreInOrderBelow s
below_split (N.Typename n) s all = (tt, all)
below_split (N.Leaf n name xs) s all = (tt, all)
below_split (N.Object n name xs m ts is o c child) s all = ((all.0, tt), all.1)
below_split (N.Guarded g child) s all = ((all.0, tt), all.1)
below_split (N.Pointer f xs None) s all = (tt, all)
below_split (N.Pointer f xs (Some child)) s all = ((all.0, tt), all.1)

pub below_joined : (x : ReaderStep) (s : Reader) → AreInOrderBelow (step_of x) → AreInOrderBelow s → AreInOrderBelow (step_before x s)
below_joined (N.Typename n) s here all = all
below_joined (N.Leaf n name xs) s here all = all
below_joined (N.Object n name xs m ts is o c child) s here all = (here.0, all)
below_joined (N.Guarded g child) s here all = (here.0, all)
below_joined (N.Pointer f xs None) s here all = all
below_joined (N.Pointer f xs (Some child)) s here all = (here.0, all)

-- ---- in another order

pub items_shuffled : (env : Values) (T : Text) {xs ys : List ReaderStep} → Shuffle xs ys → Shuffle (collect_reading env T (steps_of xs)) (collect_reading env T (steps_of ys))
items_shuffled env T nothing = nothing
items_shuffled env T (next {x = x} {xs = xs} {ys = ys} s) =
    subst (λ is. Shuffle is (collect_reading env T (step_before x (steps_of ys)))) (sym (items_step env T x (steps_of xs)))
    (subst (Shuffle (collect_reading env T (step_of x) ++ collect_reading env T (steps_of xs))) (sym (items_step env T x (steps_of ys)))
    (shuffle-append_left (collect_reading env T (step_of x)) (items_shuffled env T s)))
items_shuffled env T (turned {x = x} {y = y} {xs = xs}) =
    let rest = steps_of xs in
    let one = collect_reading env T (step_of x) in
    let other = collect_reading env T (step_of y) in
    subst (λ is. Shuffle is (collect_reading env T (step_before y (step_before x rest)))) (sym (items_step env T x (step_before y rest) ∙ ap (λ (is : List (Item ReaderPart)). one ++ is) (items_step env T y rest)))
    (subst (Shuffle (one ++ (other ++ collect_reading env T rest))) (sym (items_step env T y (step_before x rest) ∙ ap (λ (is : List (Item ReaderPart)). other ++ is) (items_step env T x rest)))
    (shuffle-turn one other (collect_reading env T rest)))
items_shuffled env T (chained s t) = chained (items_shuffled env T s) (items_shuffled env T t)

pub deep_shuffled : {xs ys : List ReaderStep} → Shuffle xs ys → records_below (steps_of xs) ≡ records_below (steps_of ys)
deep_shuffled nothing = refl
deep_shuffled (next {x = x} {xs = xs} {ys = ys} s) = deep_step x (steps_of xs) ∙ ap (max (records_below (step_of x))) (deep_shuffled s) ∙ sym (deep_step x (steps_of ys))
deep_shuffled (turned {x = x} {y = y} {xs = xs}) =
    let rest = steps_of xs in
    omega (arith, deep_step x (step_before y rest), deep_step y rest, deep_step y (step_before x rest), deep_step x rest)
deep_shuffled (chained s t) = deep_shuffled s ∙ deep_shuffled t

pub below_shuffled : {xs ys : List ReaderStep} → Shuffle xs ys → AreInOrderBelow (steps_of xs) → AreInOrderBelow (steps_of ys)
below_shuffled nothing all = all
below_shuffled (next {x = x} {xs = xs} {ys = ys} s) all =
    let parts = below_split x (steps_of xs) all in below_joined x (steps_of ys) parts.0 (below_shuffled s parts.1)
below_shuffled (turned {x = x} {y = y} {xs = xs}) all =
    let first = below_split x (step_before y (steps_of xs)) all in
    let second = below_split y (steps_of xs) first.1 in
    below_joined y (step_before x (steps_of xs)) second.0 (below_joined x (steps_of xs) first.0 second.1)
below_shuffled (chained s t) all = below_shuffled t (below_shuffled s all)
