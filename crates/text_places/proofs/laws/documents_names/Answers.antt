use Rattle.text_places.proofs.DocumentNames.{documents_names}
use Rattle.text_places.proofs.laws.documents_names.Goals as goal

pub returns : goal.returns
returns c = λ defs rs. documents_names defs rs
