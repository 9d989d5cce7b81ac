use Rattle.text_places.proofs.DocumentCounts.{document_count}
use Rattle.text_places.proofs.laws.document_count.Goals as goal

pub returns : goal.returns
returns c = λ d. document_count d
