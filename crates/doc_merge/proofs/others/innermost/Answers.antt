-- The first level, or there is none.
use Rattle.doc_merge.proofs.OutSteps.{first_level, no_level}
use Rattle.doc_merge.proofs.others.innermost.Goals as goal

pub returns-in-Some : goal.returns-in-Some
returns-in-Some c = first_level c.args.row.now.pattern.now _ _ c.in-Some.is c.first.ensures.value

pub returns-in-None : goal.returns-in-None
returns-in-None c = no_level c.args.row.now.pattern.now _ c.in-None.is c.first.ensures.value
