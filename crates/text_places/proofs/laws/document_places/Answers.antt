use Rattle.text_places.proofs.PlaceCounts.{document_places}
use Rattle.text_places.proofs.laws.document_places.Goals as goal

pub returns : goal.returns
returns c = λ file text p d. document_places file text p d
