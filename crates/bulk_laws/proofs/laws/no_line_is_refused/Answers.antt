use Rattle.bulk_laws.proofs.Unrefused.{no_line_is_refused}
use Rattle.bulk_laws.proofs.laws.no_line_is_refused.Goals as goal

-- src/laws.rt:10:1
pub returns : goal.returns
returns c = no_line_is_refused
