-- One more argument.
use Rattle.std.proofs.Common.{arith}
use Rattle.doc_merge.proofs.ValueSteps.{argument_next}
use Rattle.doc_merge.proofs.values.note_arguments.Goals as goal

pub arguments-preserved : goal.arguments-preserved
arguments-preserved c =
    argument_next c.args.schema.now c.args.variables.now.defined.now c.args.inputs.now c.args.place _ c.arguments.argument-index c.argument-item.result c.in_ok-is_good.is_good _ _ _ (omega arith) c.argument-item.is
    c.in_ok-is_good.ensures c.note_if.ensures c.arguments.invariant
