use Rattle.store_sweeps.proofs.Folds.{sweeps_under_layers}
use Rattle.store_sweeps.proofs.laws.sweeps_are_under_layers.Goals as goal

pub returns : goal.returns
returns c = sweeps_under_layers
