use Rattle.constant_values.proofs.FittingLaws.{agreeing_types_fit}
use Rattle.constant_values.proofs.fittings.agreeing_types_fit.Goals as goal

pub returns : goal.returns
returns c = agreeing_types_fit
