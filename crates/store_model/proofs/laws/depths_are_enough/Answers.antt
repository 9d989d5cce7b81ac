use Rattle.store_model.proofs.LikeLaws.{depths_enough}
use Rattle.store_model.proofs.laws.depths_are_enough.Goals as goal

pub returns : goal.returns
returns c begin = depths_enough
