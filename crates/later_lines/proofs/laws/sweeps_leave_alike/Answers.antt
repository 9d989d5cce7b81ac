use Rattle.later_lines.proofs.Sweeping.{sweeps_alike}
use Rattle.later_lines.proofs.laws.sweeps_leave_alike.Goals as goal

pub returns : goal.returns
returns c = sweeps_alike
