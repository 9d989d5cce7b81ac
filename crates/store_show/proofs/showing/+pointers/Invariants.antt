-- Where no step so far is a pointer, what is left decides; a step is at most as deep as its plan.
use Rattle.std.proofs.Common.{◌≡◌, ◌+◌, ◌*◌, drop}
use Rattle.plan_ir.specs.Reader.{depth}
use Rattle.plan_ir.specs.ReaderView.{step_of, steps_of}
use Rattle.plan_order.specs.Responses.{fragments}
use Rattle.plan_order.specs.Walk.{is_none}
use Rattle.store_show.proofs.showing.+pointers.Given as goal

abbrev pub decreases-has_no_pointer : goal.decreases-has_no_pointer
decreases-has_no_pointer l = 2 * depth l.plan.now + 1

abbrev pub decreases-is_no_pointer : goal.decreases-is_no_pointer
decreases-is_no_pointer l = 2 * depth (step_of l.step.now)

abbrev pub invariant-has_no_pointer-steps : goal.invariant-has_no_pointer-steps
invariant-has_no_pointer-steps l = record {
  within : steps_of l.step-items ≡ l.plan;
  left : is_none (fragments (steps_of (drop l.step-index l.step-items))) ≡ is_none (fragments l.plan);
}
