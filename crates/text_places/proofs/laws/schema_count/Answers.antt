use Rattle.text_places.proofs.SchemaCounts.{schema_count}
use Rattle.text_places.proofs.laws.schema_count.Goals as goal

pub returns : goal.returns
returns c = λ s. schema_count s
