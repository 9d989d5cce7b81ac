use Rattle.constant_values.proofs.FittingLaws.{literals_fit}
use Rattle.constant_values.proofs.fittings.literals_fit.Goals as goal

pub returns : goal.returns
returns c = literals_fit
