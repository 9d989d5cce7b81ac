-- The types and the connections of a plan that reads.
use Rattle.plan_read.proofs.TypedReaders.{fragment_readers_are_typed}
use Rattle.plan_read.proofs.laws.fragment_readers_are_typed.Goals as goal

pub returns : goal.returns
returns c = λ p o has_names sound meets. fragment_readers_are_typed p o has_names sound meets
