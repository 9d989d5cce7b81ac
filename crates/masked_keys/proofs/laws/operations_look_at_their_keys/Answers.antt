-- Each key that the read of an operation looks at stands in the operation's text.
use Rattle.masked_keys.proofs.Looking.{operations_look}
use Rattle.masked_keys.proofs.laws.operations_look_at_their_keys.Goals as goal

pub returns : goal.returns
returns c = λ p o own owner m id. operations_look p o own owner m id
