-- The law of every walk, for the steps of plans.
use Rattle.std.proofs.Common.{◌+◌, ◌∷◌, []}
use Rattle.plan_ir.specs.ReaderMeaning.{collect_reader, records_below}
use Rattle.plan_ir.proofs.store_model_laws.SameRead.{read_same}
use Rattle.plan_ir.proofs.store_model_laws.SameSlots.{read_same_seen}
use Rattle.store_read.proofs.laws.reads_depend_on_their_footprint.Goals as goal

pub returns : goal.returns
returns c = record {
  parts = λ typed owner m n depth types parts id h. read_same collect_reader typed owner m n depth types parts id h;
  plans = λ typed owner m n env steps types id h. read_same collect_reader typed owner m n (records_below steps + 1) types (record { environment = env; steps = steps } ∷ []) id h;
  slots = λ typed owner m n env steps types id h. read_same_seen collect_reader typed owner m n (records_below steps + 1) types (record { environment = env; steps = steps } ∷ []) id h;
}
