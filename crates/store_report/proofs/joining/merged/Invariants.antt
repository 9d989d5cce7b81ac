use Rattle.store_report.proofs.JoinSteps.{Merging}
use Rattle.store_report.proofs.joining.merged.Given as goal

abbrev pub invariant-rows : goal.invariant-rows
invariant-rows l = Merging l.fn.rows.items l.whole.items l.begun l.row-iterator.rest.items
