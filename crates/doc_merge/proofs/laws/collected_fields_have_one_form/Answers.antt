-- Where no place is at fault, no two paths are in conflict.
use Rattle.doc_merge.proofs.CollectedLaws.{collected_alike}
use Rattle.doc_merge.proofs.laws.collected_fields_have_one_form.Goals as goal

pub returns : goal.returns
returns c = λ fs e. collected_alike fs e
