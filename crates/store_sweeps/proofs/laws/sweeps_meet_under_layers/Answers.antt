use Rattle.store_sweeps.proofs.Meeting.{sweeps_meet}
use Rattle.store_sweeps.proofs.laws.sweeps_meet_under_layers.Goals as goal

pub returns : goal.returns
returns c = sweeps_meet
