-- The steps are those of the plan; a step is at most as deep as its plan.
use Rattle.std.proofs.Common.{◌≡◌, ◌+◌, ◌*◌}
use Rattle.plan_ir.specs.Normal.{depth}
use Rattle.plan_ir.specs.NormalView.{step_of, steps_of}
use Rattle.plan_tests.proofs.normal_plans.+plans.Given as goal

abbrev pub decreases-put_plan : goal.decreases-put_plan
decreases-put_plan l = 2 * depth l.plan.now.steps + 1

abbrev pub decreases-put_step : goal.decreases-put_step
decreases-put_step l = 2 * depth (step_of l.step.now)

abbrev pub invariant-put_plan-loop-step : goal.invariant-put_plan-loop-step
invariant-put_plan-loop-step l = steps_of l.step-items ≡ l.plan.steps
