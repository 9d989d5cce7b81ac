-- All are like the first, or there is none.
use Rattle.doc_merge.proofs.FirstSteps.{have_one_first, have_one_none}
use Rattle.doc_merge.proofs.others.have_one_signature.Goals as goal

pub returns-in-Some : goal.returns-in-Some
returns-in-Some c = have_one_first c.args.rows.now _ _ _ c.in-Some.is c.first.ensures.value c.are_like.ensures

pub returns-in-None : goal.returns-in-None
returns-in-None c = have_one_none c.args.rows.now _ c.in-None.is c.first.ensures.value
