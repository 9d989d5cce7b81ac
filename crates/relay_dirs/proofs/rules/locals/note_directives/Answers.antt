-- One more of the list.
use Rattle.std.proofs.Common.{arith}
use Rattle.constant_values.proofs.gql_graph_laws.LeastSteps.{each_next}
use Rattle.doc_uses.specs.doc_sites.SitesView.{directive_of}
use Rattle.relay_rules.specs.RelayRules as rules
use Rattle.relay_dirs.proofs.rules.locals.note_directives.Goals as goal

pub directives-preserved : goal.directives-preserved
directives-preserved c = each_next directive_of (rules.locals_wrong_in c.args.schema.now) c.args.directives.now c.directives.directive-index c.directive-item.result _ _ _ (omega arith) c.directive-item.is c.in_ok-note_directive.ensures c.directives.invariant
