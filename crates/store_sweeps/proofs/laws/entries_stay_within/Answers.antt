use Rattle.store_sweeps.proofs.Folds.{entry_goes}
use Rattle.store_sweeps.proofs.laws.entries_stay_within.Goals as goal

pub returns : goal.returns
returns c = entry_goes
