-- A read by the plan of a suited fragment looks at keys that stand in the fragment's text.
use Rattle.masked_keys.proofs.Looking.{suited_fragment_plans_look}
use Rattle.masked_keys.proofs.laws.suited_fragment_plans_look_at_their_keys.Goals as goal

pub returns : goal.returns
returns c = λ p f sound constant suited alike operation_type own scope locals owner m id. suited_fragment_plans_look p f sound constant suited alike operation_type own scope locals owner m id
