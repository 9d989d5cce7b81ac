use Rattle.std.proofs.Common.{arith}
use Rattle.store_source.proofs.Laid.{others_next}
use Rattle.store_source.proofs.newest.copy_without.Goals as goal

pub changes-preserved : goal.changes-preserved
changes-preserved c =
    others_next c.args.changes.now c.args.id.now c.changes.change-index c.change-item.result (omega arith) c.change-item.is _ _ _ c.in_ok-put_other.ensures c.changes.invariant
