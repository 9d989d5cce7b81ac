use Rattle.store_model.proofs.FactRows.{rows-none}
use Rattle.store_model.proofs.facts.FactList.new.Goals as goal

pub invariant_of-result : goal.invariant_of-result
invariant_of-result c = rw c.new.ensures.items rows-none
