use Rattle.text_places.proofs.DocumentNames.{document_names}
use Rattle.text_places.proofs.laws.document_names.Goals as goal

pub returns : goal.returns
returns c = λ defs file text p d. document_names defs file text p d
