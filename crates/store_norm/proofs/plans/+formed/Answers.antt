-- A step is at most as deep as the plan that it stands in.
use Rattle.std.proofs.Common.{◌≤◌, arith}
use Rattle.plan_ir.specs.Normal.{depth}
use Rattle.plan_ir.specs.NormalView.{step_of}
use Rattle.plan_groups.proofs.WalkSteps.{step_below}
use Rattle.store_norm.proofs.plans.+formed.Goals as goal

pub are_formed-is_step_formed-requires : goal.are_formed-is_step_formed-requires
are_formed-is_step_formed-requires t c =
    let less : depth (step_of c.step-item.result) ≤ depth c.args.steps.now = step_below _ _ c.steps.step-index c.step-item.result (omega arith) c.step-item.is c.steps.invariant.within in
    (omega (arith, less), tt)
