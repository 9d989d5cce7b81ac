-- One more step, and all of them.
use Rattle.std.proofs.Common.{refl, ap, sym, ◌∙◌, arith}
use Rattle.plan_order.proofs.GuardSteps.{left_end, left_here, left_next, unguarded_step}
use Rattle.plan_order.proofs.keys.is_unguarded.Goals as goal
use Rattle.plan_order.specs.HasOrder.{is_unguarded}

pub steps-init : goal.steps-init
steps-init c = ap is_unguarded c.as_slice-step-items.ensures

pub steps-preserved : goal.steps-preserved
steps-preserved c =
    left_next is_unguarded unguarded_step c.as_slice-step-items.result.now c.steps.step-index c.step-item.result _ (omega arith) c.step-item.is
    (sym c.is_no_guard.ensures ∙ c.if-not-is_no_guard.false) c.steps.invariant

pub returns-then-not-is_no_guard : goal.returns-then-not-is_no_guard
returns-then-not-is_no_guard c =
    left_here is_unguarded unguarded_step c.as_slice-step-items.result.now c.steps.step-index c.step-item.result _ (omega arith) c.step-item.is
    (sym c.is_no_guard.ensures ∙ c.if-not-is_no_guard.true) c.steps.invariant

pub returns : goal.returns
returns c = left_end is_unguarded unguarded_step c.as_slice-step-items.result.now c.steps.step-index _ (omega arith) refl c.steps.invariant
