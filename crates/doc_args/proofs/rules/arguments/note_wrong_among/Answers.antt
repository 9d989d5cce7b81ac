-- One more of the list.
use Rattle.std.proofs.Common.{arith}
use Rattle.doc_uses.specs.schema_types.ArgumentRules as rules
use Rattle.doc_args.specs.CallView.{call_of}
use Rattle.gql_graph.proofs.LeastSteps.{each_next}
use Rattle.doc_args.proofs.rules.arguments.note_wrong_among.Goals as goal

pub calls-preserved : goal.calls-preserved
calls-preserved c = each_next call_of rules.arguments_of_call_wrong c.args.calls.now c.calls.call-index c.call-item.result _ _ _ (omega arith) c.call-item.is c.in_ok-note_wrong.ensures c.calls.invariant
