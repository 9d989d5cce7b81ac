-- What is found has the verdict of the whole.
use Rattle.plan_expand.proofs.Outcomes.{enough_verdict}
use Rattle.plan_expand.proofs.check.check_extent.Goals as goal

pub returns-in-Ok : goal.returns-in-Ok
returns-in-Ok c = enough_verdict _ c.in-Ok.extent c.in-Ok.ensures c.check_limits.result c.check_limits.ensures
