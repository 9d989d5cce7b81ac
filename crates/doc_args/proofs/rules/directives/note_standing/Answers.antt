-- One more of the list.
use Rattle.std.proofs.Common.{arith}
use Rattle.doc_uses.specs.schema_types.ArgumentRules as rules
use Rattle.doc_uses.specs.doc_sites.SitesView.{directive_of}
use Rattle.gql_graph.proofs.LeastSteps.{each_next}
use Rattle.doc_uses.proofs.Steps.{noted_if_not}
use Rattle.doc_args.proofs.rules.directives.note_standing.Goals as goal

pub directives-preserved : goal.directives-preserved
directives-preserved c = each_next directive_of (rules.stands_wrong c.args.schema.now c.args.location) c.args.directives.now c.directives.directive-index c.directive-item.result _ _ _ (omega arith) c.directive-item.is
    (noted_if_not _ _ c.may_stand-is_good.result _ _ c.note_if.ensures c.may_stand-is_good.ensures) c.directives.invariant
