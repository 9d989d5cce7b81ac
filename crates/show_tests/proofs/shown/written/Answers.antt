-- The plan is in order.
use Rattle.std.proofs.Common.{refl}
use Rattle.show_tests.proofs.shown.written.Goals as goal

pub show-requires : goal.show-requires
show-requires c = (c.in-Some.ensures.order c.in-Some.plan.now refl).0
