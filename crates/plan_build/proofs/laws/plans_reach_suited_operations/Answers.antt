-- The plan of a suited operation reaches what the operation reaches along the documents.
use Rattle.plan_build.proofs.PlanLaws.{plans_reach_suited_operations}
use Rattle.plan_build.proofs.laws.plans_reach_suited_operations.Goals as goal

pub returns : goal.returns
returns c = λ p added o plan sound suited alike reaches own m id j. plans_reach_suited_operations p added o plan sound suited alike reaches own m id j
