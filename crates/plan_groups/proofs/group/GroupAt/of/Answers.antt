-- What is made of one field.
use Rattle.std.proofs.Common.{ap}
use Rattle.plan_groups.proofs.GroupSteps.{made_one}
use Rattle.plan_groups.proofs.group.GroupAt.of.Goals as goal
use Rattle.plan_groups.specs.GroupView.{group_of}

pub invariant_of-result : goal.invariant_of-result
invariant_of-result c =
    made_one c.args.field c.new.result.items c.new-2.result.items _ _ _ c.new.ensures.items c.new-2.ensures.items c.in_ok-key.ensures c.in_ok-handle.ensures c.in_ok-handles.ensures
