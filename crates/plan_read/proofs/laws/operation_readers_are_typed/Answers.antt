-- The types and the connections of a plan that reads.
use Rattle.plan_read.proofs.TypedReaders.{operation_readers_are_typed}
use Rattle.plan_read.proofs.laws.operation_readers_are_typed.Goals as goal

pub returns : goal.returns
returns c = λ p o has_names sound meets. operation_readers_are_typed p o has_names sound meets
