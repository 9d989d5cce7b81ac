use Rattle.later_lines.proofs.Sweeping.{sweeps_meet_again}
use Rattle.later_lines.proofs.laws.sweeps_meet.Goals as goal

pub returns : goal.returns
returns c = sweeps_meet_again
