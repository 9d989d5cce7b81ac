-- Each fragment of an accepted project meets the rules that plans need.
use Rattle.plan_build.proofs.SuitedOperations.{fragments_of_documents_meet}
use Rattle.plan_build.proofs.laws.fragments_of_documents_meet.Goals as goal

pub returns : goal.returns
returns c = λ defs ps place sound rules n f found. fragments_of_documents_meet defs ps place sound rules n f found
