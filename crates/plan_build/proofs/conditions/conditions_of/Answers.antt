-- One more directive, and all of them.
use Rattle.std.proofs.Common.{refl, arith}
use Rattle.plan_build.specs.Conditions.{condition_of, conditions_of}
use Rattle.plan_build.proofs.CodeSteps.{list_end, list_next}
use Rattle.plan_build.proofs.conditions.conditions_of.Goals as goal

pub directives-preserved : goal.directives-preserved
directives-preserved c =
    list_next conditions_of condition_of (λ d ds. refl) c.as_slice-directive-items.result.now c.directives.directive-index c.directive-item.result _ _ _ (omega arith) c.directive-item.is
    c.in_ok-put_condition.ensures c.directives.invariant

pub returns : goal.returns
returns c = list_end conditions_of refl c.as_slice-directive-items.result.now c.directives.directive-index _ _ (omega arith) c.directives.invariant
