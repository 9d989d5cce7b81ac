-- A step is at most as deep as its plan, and deeper than the plans in it.
use Rattle.std.proofs.Common.{◌≡◌, ◌+◌, ◌<◌, ◌≤◌, ap, ◌∙◌, arith}
use Rattle.plan_groups.proofs.WalkSteps.{guarded_deep, step_below}
use Rattle.plan_ir.specs.Normal.{depth}
use Rattle.plan_ir.specs.NormalView.{step_of}
use Rattle.plan_ir.specs.declared.normal.NormalStep.{NormalStep}
use Rattle.plan_tests.proofs.normal_plans.+plans.Goals as goal

pub put_plan-put_step-requires : goal.put_plan-put_step-requires
put_plan-put_step-requires t c =
    let less : depth (step_of c.step-item.result) ≤ depth c.args.plan.now.steps = step_below _ _ c.loop-step.step-index c.step-item.result (omega arith) c.step-item.is c.loop-step.invariant in
    (omega (arith, less), tt)

pub put_step-put_plan-requires-in-Guarded : goal.put_step-put_plan-requires-in-Guarded
put_step-put_plan-requires-in-Guarded t c =
    let less : depth c.in-Guarded.child.steps < depth (step_of c.args.step.now) = guarded_deep _ _ _ c.in-Guarded.is in
    (omega (arith, less), tt)
