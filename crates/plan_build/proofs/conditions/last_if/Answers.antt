-- One more argument, and all of them.
use Rattle.std.proofs.Common.{arith}
use Rattle.plan_build.proofs.CodeSteps.{last_end, last_next}
use Rattle.plan_build.proofs.conditions.last_if.Goals as goal

pub arguments-preserved : goal.arguments-preserved
arguments-preserved c =
    last_next c.as_slice-argument-items.result.now c.arguments.argument-index c.argument-item.result _ _ _ (omega arith) c.argument-item.is c.in_ok-value.ensures c.arguments.invariant

pub returns : goal.returns
returns c = last_end c.as_slice-argument-items.result.now c.arguments.argument-index _ _ (omega arith) c.arguments.invariant
