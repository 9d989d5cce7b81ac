-- The expansion of an operation of an accepted project is suited.
use Rattle.plan_build.proofs.SuitedOperations.{operations_are_suited}
use Rattle.plan_build.proofs.laws.operations_are_suited.Goals as goal

pub returns : goal.returns
returns c = λ defs ps place name o sound rules found. operations_are_suited defs ps place name o sound rules found
