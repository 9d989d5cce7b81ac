-- One more argument.
use Rattle.std.proofs.Common.{arith}
use Rattle.schema_trees.specs.LocatedView.{input_of}
use Rattle.schema_rules.specs.Rules as rules
use Rattle.schema_rules.proofs.SettledSteps.{further_next}
use Rattle.schema_rules.proofs.rules.fields.are_named_later.Goals as goal

pub arguments-preserved : goal.arguments-preserved
arguments-preserved c = λ ws.
    further_next input_of (rules.further_argument ws) c.args.arguments.now c.arguments.argument-index c.argument-item.result c.args.least.now.at (omega arith) c.argument-item.is
    (c.is_named_later.ensures c.if-not-is_named_later.false ws) (c.arguments.invariant ws)
