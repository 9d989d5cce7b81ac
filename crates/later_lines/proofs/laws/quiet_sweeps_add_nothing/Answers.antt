use Rattle.later_lines.proofs.Sweeping.{quiet_sweeps}
use Rattle.later_lines.proofs.laws.quiet_sweeps_add_nothing.Goals as goal

pub returns : goal.returns
returns c = quiet_sweeps
