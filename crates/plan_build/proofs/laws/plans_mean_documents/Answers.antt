-- Each response says to the plan of an operation what it says to the operation along the documents.
use Rattle.plan_build.proofs.PlanLaws.{plans_mean_documents}
use Rattle.plan_build.proofs.laws.plans_mean_documents.Goals as goal

pub returns : goal.returns
returns c = λ defs ps place added name o plan sound rules found none means own response. plans_mean_documents defs ps place added name o plan sound rules found none means own response
