-- A read by the plan of an operation looks at keys that stand in the operation's text.
use Rattle.masked_keys.proofs.Looking.{operation_plans_look}
use Rattle.masked_keys.proofs.laws.operation_plans_look_at_their_keys.Goals as goal

pub returns : goal.returns
returns c = λ defs ps place name o sound rules found none own owner m id. operation_plans_look defs ps place name o sound rules found none own owner m id
