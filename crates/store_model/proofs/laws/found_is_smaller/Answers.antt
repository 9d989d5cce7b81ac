use Rattle.store_model.proofs.Smaller.{found_smaller}
use Rattle.store_model.proofs.laws.found_is_smaller.Goals as goal

pub returns : goal.returns
returns c = found_smaller
