-- All are compared with the first, or there is none.
use Rattle.doc_merge.proofs.FirstSteps.{unlike_first, unlike_none}
use Rattle.doc_merge.proofs.shape.note_shapes.Goals as goal

pub returns-in-Some : goal.returns-in-Some
returns-in-Some c = unlike_first c.args.schema.now c.args.group.now _ _ _ _ c.in-Some.is c.first.ensures.value c.note_unlike.ensures

pub returns-in-None : goal.returns-in-None
returns-in-None c = unlike_none c.args.schema.now c.args.group.now _ _ c.in-None.is c.first.ensures.value
