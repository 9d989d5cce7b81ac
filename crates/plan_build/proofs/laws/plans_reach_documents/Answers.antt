-- The plan of an operation reaches what the operation reaches along the documents.
use Rattle.plan_build.proofs.PlanLaws.{plans_reach_documents}
use Rattle.plan_build.proofs.laws.plans_reach_documents.Goals as goal

pub returns : goal.returns
returns c = λ defs ps place added name o plan sound rules found none reaches own m id j. plans_reach_documents defs ps place added name o plan sound rules found none reaches own m id j
