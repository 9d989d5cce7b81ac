-- A sweep changes no read of an operation that is retained.
use Rattle.retained_reads.proofs.Sweeping.{sweeps_keep_reads}
use Rattle.retained_reads.proofs.laws.sweeps_keep_reads.Goals as goal

pub returns : goal.returns
returns c = λ p accepted rs named live owner m. sweeps_keep_reads p accepted rs named live owner m
