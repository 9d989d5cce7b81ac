-- The expansion of an operation that meets the rules that it needs is suited.
use Rattle.plan_build.proofs.SuitedOperations.{operations_that_meet_are_suited}
use Rattle.plan_build.proofs.laws.operations_that_meet_are_suited.Goals as goal

pub returns : goal.returns
returns c = λ p o sound meets. operations_that_meet_are_suited p o sound meets
