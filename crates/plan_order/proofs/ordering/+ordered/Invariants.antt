-- The singles so far are those of the steps so far, below which there is an order. A step is no deeper than those among which it stands.
use Rattle.std.proofs.Common.{◌≡◌, ◌+◌, ◌*◌, true, take}
use Rattle.plan_ir.specs.Reader.{depth}
use Rattle.plan_ir.specs.ReaderView.{step_of, steps_of}
use Rattle.plan_order.proofs.ordering.+ordered.Given as goal
use Rattle.plan_order.specs.HasOrder.{has_order_below}
use Rattle.plan_order.specs.Singles.{AreSingles}

abbrev pub decreases-ordered : goal.decreases-ordered
decreases-ordered l = 4 * depth l.plan.now.steps + 2

abbrev pub decreases-singles_of : goal.decreases-singles_of
decreases-singles_of l = 4 * depth l.steps.now + 1

abbrev pub decreases-apart : goal.decreases-apart
decreases-apart l = 4 * depth (step_of l.step.now)

abbrev pub decreases-body_apart : goal.decreases-body_apart
decreases-body_apart l = 4 * depth l.body.now.steps + 3

abbrev pub invariant-singles_of-steps : goal.invariant-singles_of-steps
invariant-singles_of-steps l = record {
  singles : AreSingles (steps_of (take l.step-index l.step-items)) l.singles.items;
  below : has_order_below (steps_of (take l.step-index l.step-items)) ≡ true;
}
