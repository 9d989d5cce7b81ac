-- The law of ordered plans.
use Rattle.plan_order.proofs.OrderedReads as reads
use Rattle.plan_order.proofs.laws.ordered_walks_read_alike.Goals as goal

pub returns : goal.returns
returns c = reads.ordered_walks_read_alike
