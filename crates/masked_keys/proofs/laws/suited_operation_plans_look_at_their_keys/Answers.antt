-- A read by the plan of a suited operation looks at keys that stand in the operation's text.
use Rattle.masked_keys.proofs.Looking.{suited_operation_plans_look}
use Rattle.masked_keys.proofs.laws.suited_operation_plans_look_at_their_keys.Goals as goal

pub returns : goal.returns
returns c = λ p o sound constant suited alike own owner m id. suited_operation_plans_look p o sound constant suited alike own owner m id
