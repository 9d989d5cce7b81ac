-- One more step; what stands behind a guard is less deep than the step.
use Rattle.std.proofs.Common.{◌<◌, ◌≤◌, rules, ◌∙◌, arith}
use Rattle.plan_ir.proofs.StepDepths.{step_within}
use Rattle.plan_ir.specs.Reader.{depth}
use Rattle.plan_ir.specs.ReaderView.{step_of}
use Rattle.store_read.proofs.GatherSteps.{guarded_deep}
use Rattle.store_show.proofs.PointerSteps.{none_guarded, none_here, none_next}
use Rattle.store_show.proofs.showing.+pointers.Goals as goal

pub has_no_pointer-is_no_pointer-requires : goal.has_no_pointer-is_no_pointer-requires
has_no_pointer-is_no_pointer-requires t c =
    let less : depth (step_of c.step-item.result) ≤ depth c.args.plan.now = step_within _ c.steps.step-index c.step-item.result _ (omega arith) c.step-item.is c.steps.invariant.within in
    (omega (arith, less, c.decreases), tt)

pub has_no_pointer-steps-preserved : goal.has_no_pointer-steps-preserved
has_no_pointer-steps-preserved t c = record {
  within = c.steps.invariant.within;
  left = none_next _ c.steps.step-index c.step-item.result (omega arith) c.step-item.is _ (search rules) c.steps.invariant.left;
}

pub has_no_pointer-returns-then-not-is_no_pointer : goal.has_no_pointer-returns-then-not-is_no_pointer
has_no_pointer-returns-then-not-is_no_pointer t c = none_here _ c.steps.step-index c.step-item.result (omega arith) c.step-item.is _ (search rules) c.steps.invariant.left

pub is_no_pointer-has_no_pointer-requires : goal.is_no_pointer-has_no_pointer-requires
is_no_pointer-has_no_pointer-requires t c =
    let less : depth c.in-Guarded.child.steps < depth (step_of c.args.step.now) = guarded_deep _ _ _ c.in-Guarded.is in
    (omega (arith, less, c.decreases), tt)

pub is_no_pointer-returns-in-Guarded : goal.is_no_pointer-returns-in-Guarded
is_no_pointer-returns-in-Guarded t c = c.has_no_pointer.ensures ∙ none_guarded _ _ _ c.in-Guarded.is
