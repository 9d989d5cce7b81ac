-- Where it holds of the steps so far, what is left decides.
use Rattle.std.proofs.Common.{◌≡◌, drop}
use Rattle.plan_ir.specs.ReaderView.{steps_of}
use Rattle.plan_order.proofs.keys.has_single_guards.Given as goal
use Rattle.plan_order.specs.HasOrder.{has_single_guards}

abbrev pub invariant-steps : goal.invariant-steps
invariant-steps l = has_single_guards (steps_of (drop l.step-index l.step-items)) ≡ has_single_guards l.steps
