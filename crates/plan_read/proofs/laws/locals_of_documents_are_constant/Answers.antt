-- The local variables of the fragments of an accepted project have constant defaults.
use Rattle.plan_read.proofs.ConstantLocals.{locals_are_constant}
use Rattle.plan_read.proofs.laws.locals_of_documents_are_constant.Goals as goal

pub returns : goal.returns
returns c = λ defs ps place rules n f found. locals_are_constant defs ps place rules n f found
