-- Of two nodes of documents the one with the lower number is at the earlier place.
use Rattle.place_order.proofs.Rises.{documents_rise}
use Rattle.place_order.proofs.laws.document_places_rise.Goals as goal

pub returns : goal.returns
returns c = λ file texts ps d. documents_rise file texts ps d
