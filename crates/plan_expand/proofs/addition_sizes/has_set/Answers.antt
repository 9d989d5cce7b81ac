-- A set has a selection or is empty.
use Rattle.plan_expand.proofs.NodeSizes.{has_set_is}
use Rattle.plan_expand.proofs.addition_sizes.has_set.Goals as goal

pub returns : goal.returns
returns c = has_set_is c.args.selections.now c.is_empty.result c.is_empty.ensures
