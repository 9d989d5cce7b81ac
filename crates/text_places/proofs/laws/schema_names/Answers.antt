use Rattle.text_places.proofs.SchemaNames.{schema_names}
use Rattle.text_places.proofs.laws.schema_names.Goals as goal

pub returns : goal.returns
returns c = λ file text p s. schema_names file text p s
