use Rattle.store_model.proofs.Retained.{reads_retained}
use Rattle.store_model.proofs.laws.reads_are_retained.Goals as goal

pub returns : goal.returns
returns c begin = reads_retained
