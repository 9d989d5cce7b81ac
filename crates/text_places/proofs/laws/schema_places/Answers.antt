use Rattle.text_places.proofs.PlaceCounts.{schema_places}
use Rattle.text_places.proofs.laws.schema_places.Goals as goal

pub returns : goal.returns
returns c = λ file text p s. schema_places file text p s
