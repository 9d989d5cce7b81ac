use Rattle.bulk_laws.proofs.Accepted.{bulk_is_accepted}
use Rattle.bulk_laws.proofs.laws.project_is_accepted.Goals as goal

-- src/laws.rt:5:1
pub returns : goal.returns
returns c = bulk_is_accepted
