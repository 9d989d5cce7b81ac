use Rattle.store_sweeps.proofs.Reading.{reaches_stay}
use Rattle.store_sweeps.proofs.laws.reaches_stay_under_layers.Goals as goal

pub returns : goal.returns
returns c begin = reaches_stay
