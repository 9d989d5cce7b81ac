use Rattle.store_sweeps.proofs.Folds.{leads_within}
use Rattle.store_sweeps.proofs.laws.leads_are_within.Goals as goal

pub returns : goal.returns
returns c = leads_within
