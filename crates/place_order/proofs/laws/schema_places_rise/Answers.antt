-- Of two nodes of a schema the one with the lower number begins no later.
use Rattle.place_order.proofs.Rises.{schema_rises}
use Rattle.place_order.proofs.laws.schema_places_rise.Goals as goal

pub returns : goal.returns
returns c = λ file text p s. schema_rises file text p s
