-- An operation of an accepted project meets the rules that it needs.
use Rattle.plan_build.proofs.SuitedOperations.{operations_of_documents_meet}
use Rattle.plan_build.proofs.laws.operations_of_documents_meet.Goals as goal

pub returns : goal.returns
returns c = λ defs ps place name o sound rules found. operations_of_documents_meet defs ps place name o sound rules found
