-- Nothing is known.
use Rattle.doc_fields.proofs.CommonSteps.{none_common}
use Rattle.doc_fields.proofs.common_types.CommonTypes.new.Goals as goal

pub returns : goal.returns
returns c = λ defs of. none_common defs of _ search
