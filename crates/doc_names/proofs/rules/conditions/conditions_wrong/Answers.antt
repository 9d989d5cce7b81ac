-- One more of the list.
use Rattle.std.proofs.Common.{arith}
use Rattle.doc_sites.specs.SitesView.{definition_of}
use Rattle.doc_sites.specs.schema_types.NameRules as names
use Rattle.doc_sites.specs.schema_rules.Rules as rules
use Rattle.doc_sites.proofs.gql_graph_laws.LeastSteps.{each_next}
use Rattle.doc_names.proofs.rules.conditions.conditions_wrong.Goals as goal

pub definitions-preserved : goal.definitions-preserved
definitions-preserved c = each_next definition_of (λ d. rules.each (names.not_composite c.args.schema.now) (names.conditions_in d)) c.args.definitions.now c.definitions.definition-index c.definition-item.result _ _ _ (omega arith) c.definition-item.is c.in_ok-note_conditions_in.ensures c.definitions.invariant
