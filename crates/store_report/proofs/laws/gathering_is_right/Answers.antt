use Rattle.store_report.proofs.Joins.{gathering_right}
use Rattle.store_report.proofs.laws.gathering_is_right.Goals as goal

pub returns : goal.returns
returns c = gathering_right
