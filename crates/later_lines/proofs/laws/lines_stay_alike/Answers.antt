use Rattle.later_lines.proofs.AlikeSteps.{lines_alike}
use Rattle.later_lines.proofs.laws.lines_stay_alike.Goals as goal

pub returns : goal.returns
returns c = lines_alike
