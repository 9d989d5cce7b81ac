-- One more of the list.
use Rattle.std.proofs.Common.{arith}
use Rattle.doc_uses.specs.schema_types.ArgumentRules as rules
use Rattle.doc_args.proofs.Steps.{noted_if}
use Rattle.doc_args.specs.CallView.{call_of}
use Rattle.gql_graph.proofs.LeastSteps.{each_next}
use Rattle.doc_args.proofs.rules.required.note_incomplete.Goals as goal

pub calls-preserved : goal.calls-preserved
calls-preserved c = each_next call_of rules.argument_missing c.args.calls.now c.calls.call-index c.call-item.result _ _ _ (omega arith) c.call-item.is (noted_if _ _ c.in_ok-is_wrong.is_wrong _ _ c.note_if.ensures c.in_ok-is_wrong.ensures) c.calls.invariant
