-- The plan of an operation shows what the operation does.
use Rattle.plan_read.proofs.ReaderLaws.{readers_mean_operations}
use Rattle.plan_read.proofs.laws.readers_mean_operations.Goals as goal

pub returns : goal.returns
returns c = λ defs ps place name o sound rules found none own owner m id. readers_mean_operations defs ps place name o sound rules found none own owner m id
