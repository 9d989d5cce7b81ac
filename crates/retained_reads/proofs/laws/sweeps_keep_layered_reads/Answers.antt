-- A sweep changes no read of an operation that is retained, whichever of the live layers are taken off.
use Rattle.retained_reads.proofs.Sweeping.{sweeps_keep_layered_reads}
use Rattle.retained_reads.proofs.laws.sweeps_keep_layered_reads.Goals as goal

pub returns : goal.returns
returns c = λ p accepted rs named live handles choice owner m. sweeps_keep_layered_reads p accepted rs named live handles choice owner m
