-- Where no step so far gives a pointer, what is left decides; a step is at most as deep as its plan.
use Rattle.std.proofs.Common.{◌≡◌, ◌+◌, ◌*◌, drop}
use Rattle.plan_ir.specs.Reader.{depth}
use Rattle.plan_ir.specs.ReaderView.{step_of, steps_of}
use Rattle.store_show.proofs.showing.+given.Given as goal
use Rattle.store_show.specs.Showing.{has_pointed, items_at}

abbrev pub decreases-has_pointer : goal.decreases-has_pointer
decreases-has_pointer l = 2 * depth l.plan.now + 1

abbrev pub decreases-is_pointer : goal.decreases-is_pointer
decreases-is_pointer l = 2 * depth (step_of l.step.now)

abbrev pub invariant-has_pointer-steps : goal.invariant-has_pointer-steps
invariant-has_pointer-steps l = record {
  within : steps_of l.step-items ≡ l.plan;
  left : has_pointed (items_at l.at (steps_of (drop l.step-index l.step-items))) ≡ has_pointed (items_at l.at l.plan);
}
