-- Each response says to the plan of a suited operation what it says to the operation along the documents.
use Rattle.plan_build.proofs.PlanLaws.{plans_mean_suited_operations}
use Rattle.plan_build.proofs.laws.plans_mean_suited_operations.Goals as goal

pub returns : goal.returns
returns c = λ p added o plan sound suited alike means own response. plans_mean_suited_operations p added o plan sound suited alike means own response
