-- Equal rows are left out twice, and are put in order between.
use Rattle.store_report.proofs.JoinSteps.{twice_same}
use Rattle.store_report.proofs.joining.once_in_order.Goals as goal

pub returns-clause-same : goal.returns-clause-same
returns-clause-same c = twice_same c.args.rows.items c.once-few.result.items c.in_ok-moved.moved.items c.once.result.items c.once-few.ensures.same c.in_ok-moved.ensures.same c.once.ensures.same

pub returns-clause-order : goal.returns-clause-order
returns-clause-order c = c.once.ensures.order c.in_ok-moved.ensures.order
