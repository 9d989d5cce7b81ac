use Rattle.store_model.proofs.Enough.{looks_enough}
use Rattle.store_model.proofs.laws.looks_are_enough.Goals as goal

pub returns : goal.returns
returns c = looks_enough
