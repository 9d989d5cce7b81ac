-- One more part.
use Rattle.std.proofs.Common.{refl, arith}
use Rattle.store_retain.proofs.PutSteps.{numbers_next}
use Rattle.store_retain.proofs.roads.roads_from.Goals as goal
use Rattle.store_retain.specs.RoadView.{table_of}

pub numbers-preserved : goal.numbers-preserved
numbers-preserved c = record {
  put = numbers_next (table_of c.args.parts.now) c.args.object.now c.args.numbers.now c.numbers.number-index _ _ _ _ _ (omega arith) refl c.in_ok-put_number.ensures.put c.numbers.invariant.put;
  placed = c.in_ok-put_number.ensures.placed;
}
