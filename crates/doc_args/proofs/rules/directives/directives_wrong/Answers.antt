-- One more of the list.
use Rattle.std.proofs.Common.{arith}
use Rattle.doc_uses.specs.schema_types.ArgumentRules as rules
use Rattle.gql_graph.specs.Rules.{each}
use Rattle.doc_uses.specs.doc_sites.SitesView.{definition_of}
use Rattle.gql_graph.proofs.LeastSteps.{each_next}
use Rattle.doc_args.proofs.rules.directives.directives_wrong.Goals as goal

pub definitions-preserved : goal.definitions-preserved
definitions-preserved c = each_next definition_of (λ d. each (rules.directed_wrong c.args.schema.now) (rules.directed_in d)) c.args.definitions.now c.definitions.definition-index c.definition-item.result _ _ _ (omega arith) c.definition-item.is c.in_ok-note_in.ensures c.definitions.invariant
