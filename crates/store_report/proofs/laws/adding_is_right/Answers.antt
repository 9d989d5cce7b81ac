use Rattle.store_report.proofs.AddSteps.{adds_none, adds_both}
use Rattle.store_report.proofs.laws.adding_is_right.Goals as goal

pub returns : goal.returns
returns c = record { none = adds_none; joins = adds_both }
