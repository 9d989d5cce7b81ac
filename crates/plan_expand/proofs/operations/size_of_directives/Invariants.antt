-- What is added up and what is left are the whole.
use Rattle.std.proofs.Common.{◌≡◌, drop}
use Rattle.plan_expand.specs.Measuring.{values_size}
use Rattle.plan_expand.specs.Sizes.{beside, own_sizes}
use Rattle.plan_expand.proofs.operations.size_of_directives.Given as goal

abbrev pub invariant-directives : goal.invariant-directives
invariant-directives l = beside l.all (values_size own_sizes (drop l.directive-index l.directive-items)) ≡ values_size own_sizes l.directives
