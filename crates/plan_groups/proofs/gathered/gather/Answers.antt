-- One more plan.
use Rattle.std.proofs.Common.{arith}
use Rattle.plan_groups.proofs.WalkSteps.{parts_next}
use Rattle.plan_groups.proofs.gathered.gather.Goals as goal

pub parts-preserved : goal.parts-preserved
parts-preserved c = record {
  put =
      parts_next c.args.object.now c.args.parts.now c.parts.part-index c.part-item.result _ _ _ (omega arith) c.part-item.is c.in_ok-put_part.ensures.put c.parts.invariant.put;
  placed = c.in_ok-put_part.ensures.placed;
}
