-- Each key that the read of a fragment looks at stands in the fragment's text.
use Rattle.masked_keys.proofs.Looking.{fragments_look}
use Rattle.masked_keys.proofs.laws.fragments_look_at_their_keys.Goals as goal

pub returns : goal.returns
returns c = λ p f operation_type own scope owner m id. fragments_look p f operation_type own scope owner m id
