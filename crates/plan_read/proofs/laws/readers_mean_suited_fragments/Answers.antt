-- The plan of a suited fragment shows what the fragment does.
use Rattle.plan_read.proofs.ReaderLaws.{readers_mean_suited_fragments}
use Rattle.plan_read.proofs.laws.readers_mean_suited_fragments.Goals as goal

pub returns : goal.returns
returns c = λ p f sound constant suited alike operation_type own scope locals owner m id. readers_mean_suited_fragments p f sound constant suited alike operation_type own scope locals owner m id
