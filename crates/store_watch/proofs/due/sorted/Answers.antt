use Rattle.store_watch.proofs.Places.{rises_dedup, has_dedup}
use Rattle.store_watch.proofs.due.sorted.Goals as goal

pub returns-clause-rises : goal.returns-clause-rises
returns-clause-rises c = rises_dedup _ _ c.in_ok-sort.ensures.sorted c.dedup.ensures.filtered

pub returns-clause-all : goal.returns-clause-all
returns-clause-all c = has_dedup _ _ _ c.sort.ensures.permutation c.dedup.ensures.filtered
