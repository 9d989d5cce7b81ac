use Rattle.store_model.proofs.LikeLaws.{responses_alike}
use Rattle.store_model.proofs.laws.responses_are_alike.Goals as goal

pub returns : goal.returns
returns c begin = responses_alike
