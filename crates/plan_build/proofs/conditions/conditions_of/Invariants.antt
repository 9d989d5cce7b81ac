-- What is put and what is left are the whole.
use Rattle.std.proofs.Common.{◌≡◌, ◌++◌, drop}
use Rattle.plan_build.specs.Conditions.{conditions_of}
use Rattle.plan_build.proofs.conditions.conditions_of.Given as goal

abbrev pub invariant-directives : goal.invariant-directives
invariant-directives l = l.conditions ++ conditions_of (drop l.directive-index l.directive-items) ≡ conditions_of l.directives
