use Rattle.store_model.proofs.LikeLaws.{reach_alike}
use Rattle.store_model.proofs.laws.reaches_are_alike.Goals as goal

pub returns : goal.returns
returns c begin = reach_alike
