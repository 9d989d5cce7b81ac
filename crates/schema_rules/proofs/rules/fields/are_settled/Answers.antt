-- One more argument.
use Rattle.std.proofs.Common.{arith}
use Rattle.schema_trees.specs.LocatedView.{input_of}
use Rattle.schema_rules.proofs.SettledSteps.{IsLater, later_next}
use Rattle.schema_rules.proofs.rules.fields.are_settled.Goals as goal

pub arguments-preserved : goal.arguments-preserved
arguments-preserved c =
    later_next input_of (IsLater c.args.least.now.at) c.args.arguments.now c.arguments.argument-index c.argument-item.result (omega arith) c.argument-item.is
    (c.is_at_most.ensures c.if-not-is_at_most.false) c.arguments.invariant
