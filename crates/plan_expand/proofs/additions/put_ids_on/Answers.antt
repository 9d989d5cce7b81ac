-- One more type, and all of them.
use Rattle.std.proofs.Common.{arith}
use Rattle.plan_expand.proofs.AdditionSteps.{ids_end, ids_next}
use Rattle.plan_expand.proofs.additions.put_ids_on.Goals as goal

pub names-preserved : goal.names-preserved
names-preserved c =
    ids_next c.args.place c.args.names.now c.names.name-index c.name-item.result _ _ _ (omega arith) c.name-item.is c.in_ok-put_id_on.ensures c.names.invariant

pub returns : goal.returns
returns c = ids_end c.args.place c.args.names.now c.names.name-index _ _ (omega arith) c.names.invariant
