-- The plan of a suited operation shows what the operation does.
use Rattle.plan_read.proofs.ReaderLaws.{readers_mean_suited_operations}
use Rattle.plan_read.proofs.laws.readers_mean_suited_operations.Goals as goal

pub returns : goal.returns
returns c = λ p o sound constant suited alike own owner m id. readers_mean_suited_operations p o sound constant suited alike own owner m id
