-- The connections of an operation that meets the rules that it needs ask for their pages.
use Rattle.plan_build.proofs.ConnectedNodes.{operations_that_meet_are_connected}
use Rattle.plan_build.proofs.laws.operations_that_meet_are_connected.Goals as goal

pub returns : goal.returns
returns c = λ p o sound meets. operations_that_meet_are_connected p o sound meets
