-- The plan of a fragment shows what the fragment does.
use Rattle.plan_read.proofs.ReaderLaws.{readers_mean_fragments}
use Rattle.plan_read.proofs.laws.readers_mean_fragments.Goals as goal

pub returns : goal.returns
returns c = λ defs ps place name f sound rules found none operation_type own scope locals owner m id. readers_mean_fragments defs ps place name f sound rules found none operation_type own scope locals owner m id
