-- Where it holds of the steps so far, what is left decides.
use Rattle.std.proofs.Common.{◌≡◌, drop}
use Rattle.plan_ir.specs.ReaderView.{steps_of}
use Rattle.plan_order.proofs.keys.is_unguarded.Given as goal
use Rattle.plan_order.specs.HasOrder.{is_unguarded}

abbrev pub invariant-steps : goal.invariant-steps
invariant-steps l = is_unguarded (steps_of (drop l.step-index l.step-items)) ≡ is_unguarded l.steps
