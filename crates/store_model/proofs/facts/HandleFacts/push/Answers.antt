use Rattle.store_model.proofs.Sorted.{sorted-push}
use Rattle.store_model.proofs.facts.HandleFacts.push.Goals as goal
use Rattle.store_model.specs.FactOrder.{handle_cmp}

pub invariant_of-self-2 : goal.invariant_of-self-2
invariant_of-self-2 c = rw c.in_ok-push.ensures.items (sorted-push handle_cmp _ _ c.self.invariant (rw c.self.view_is c.requires))
