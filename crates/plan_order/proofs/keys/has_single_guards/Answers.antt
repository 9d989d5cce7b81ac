-- One more step, and all of them.
use Rattle.std.proofs.Common.{refl, ap, sym, ◌∙◌, arith}
use Rattle.plan_order.proofs.GuardSteps.{left_end, left_here, left_next, single_step}
use Rattle.plan_order.proofs.keys.has_single_guards.Goals as goal
use Rattle.plan_order.specs.HasOrder.{has_single_guards}

pub steps-init : goal.steps-init
steps-init c = ap has_single_guards c.as_slice-step-items.ensures

pub steps-preserved : goal.steps-preserved
steps-preserved c =
    left_next has_single_guards single_step c.as_slice-step-items.result.now c.steps.step-index c.step-item.result _ (omega arith) c.step-item.is
    (sym c.has_single_guard.ensures ∙ c.if-not-has_single_guard.false) c.steps.invariant

pub returns-then-not-has_single_guard : goal.returns-then-not-has_single_guard
returns-then-not-has_single_guard c =
    left_here has_single_guards single_step c.as_slice-step-items.result.now c.steps.step-index c.step-item.result _ (omega arith) c.step-item.is
    (sym c.has_single_guard.ensures ∙ c.if-not-has_single_guard.true) c.steps.invariant

pub returns : goal.returns
returns c = left_end has_single_guards single_step c.as_slice-step-items.result.now c.steps.step-index _ (omega arith) refl c.steps.invariant
