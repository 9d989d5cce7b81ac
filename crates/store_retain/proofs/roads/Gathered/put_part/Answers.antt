-- One more trail.
use Rattle.std.proofs.Common.{arith}
use Rattle.store_retain.proofs.PutSteps.{trails_next}
use Rattle.store_retain.proofs.roads.Gathered.put_part.Goals as goal

pub trails-preserved : goal.trails-preserved
trails-preserved c = record {
  put = trails_next c.args.object.now c.args.trails.now c.trails.trail-index _ c.trail-item.result _ _ _ (omega arith) c.trail-item.is c.in_ok-put_asked.ensures.put c.trails.invariant.put;
  placed = c.in_ok-put_asked.ensures.placed;
}
