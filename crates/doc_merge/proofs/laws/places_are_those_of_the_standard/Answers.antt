-- The places of one form are those of the other.
use Rattle.doc_merge.proofs.AsStandard.{as_the_standard}
use Rattle.doc_merge.proofs.laws.places_are_those_of_the_standard.Goals as goal

pub returns : goal.returns
returns c = λ p fs n h. as_the_standard p fs n h
