-- Whether all steps are formed is whether those that are left are; a step is at most as deep as its plan.
use Rattle.std.proofs.Common.{◌≡◌, ◌+◌, ◌*◌, drop}
use Rattle.plan_ir.specs.Normal.{depth}
use Rattle.plan_ir.specs.NormalMeaning as meaning
use Rattle.plan_ir.specs.NormalView.{step_of, steps_of}
use Rattle.store_norm.proofs.plans.+formed.Given as goal

abbrev pub decreases-are_formed : goal.decreases-are_formed
decreases-are_formed l = 2 * depth l.steps.now + 1

abbrev pub decreases-is_step_formed : goal.decreases-is_step_formed
decreases-is_step_formed l = 2 * depth (step_of l.step.now)

abbrev pub invariant-are_formed-steps : goal.invariant-are_formed-steps
invariant-are_formed-steps l = record {
  within : steps_of l.step-items ≡ l.steps;
  left : meaning.is_formed l.steps ≡ meaning.is_formed (steps_of (drop l.step-index l.step-items));
}
