use Rattle.store_model.proofs.Sorted.{sorted-none}
use Rattle.store_model.proofs.facts.HandleFacts.new.Goals as goal
use Rattle.store_model.specs.FactOrder.{handle_cmp}

pub invariant_of-result : goal.invariant_of-result
invariant_of-result c = rw c.new.ensures.items (sorted-none handle_cmp)
