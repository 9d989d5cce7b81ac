use Rattle.store_sweeps.proofs.Reading.{reads_stay}
use Rattle.store_sweeps.proofs.laws.reads_stay_under_layers.Goals as goal

pub returns : goal.returns
returns c begin = reads_stay
