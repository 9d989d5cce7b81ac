-- A read by the plan of a fragment looks at keys that stand in the fragment's text.
use Rattle.masked_keys.proofs.Looking.{fragment_plans_look}
use Rattle.masked_keys.proofs.laws.fragment_plans_look_at_their_keys.Goals as goal

pub returns : goal.returns
returns c = λ defs ps place name f sound rules found none operation_type own scope locals owner m id. fragment_plans_look defs ps place name f sound rules found none operation_type own scope locals owner m id
