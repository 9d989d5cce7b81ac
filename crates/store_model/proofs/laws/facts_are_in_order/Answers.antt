use Rattle.store_model.proofs.FactRowOrder.{facts_rise}
use Rattle.store_model.proofs.laws.facts_are_in_order.Goals as goal

pub returns : goal.returns
returns c = facts_rise
