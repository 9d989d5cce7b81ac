use Rattle.store_sweeps.proofs.Folds.{leads_enough}
use Rattle.store_sweeps.proofs.laws.leads_are_enough.Goals as goal

pub returns : goal.returns
returns c = leads_enough
