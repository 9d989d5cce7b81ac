-- One more of the list.
use Rattle.std.proofs.Common.{arith}
use Rattle.constant_values.proofs.gql_graph_laws.LeastSteps.{each_next}
use Rattle.doc_uses.specs.doc_sites.SitesView.{argument_of}
use Rattle.relay_rules.specs.RelayRules as rules
use Rattle.doc_uses.proofs.Steps.{noted_if_not}
use Rattle.relay_dirs.proofs.rules.locals.note_arguments.Goals as goal

pub arguments-preserved : goal.arguments-preserved
arguments-preserved c = each_next argument_of (rules.local_wrong c.args.schema.now) c.args.arguments.now c.arguments.argument-index c.argument-item.result _ _ _ (omega arith) c.argument-item.is (noted_if_not _ _ c.in_ok-is_good.is_good _ _ c.note_if.ensures c.in_ok-is_good.ensures) c.arguments.invariant
