-- One more of the list.
use Rattle.std.proofs.Common.{arith}
use Rattle.constant_values.specs.gql_graph.Rules.{each}
use Rattle.constant_values.proofs.gql_graph_laws.LeastSteps.{each_next}
use Rattle.doc_uses.specs.doc_sites.SitesView.{definition_of}
use Rattle.relay_rules.specs.RelayRules as rules
use Rattle.constant_values.specs.schema_types.NameRules.{sites_of}
use Rattle.relay_dirs.proofs.rules.aliases.aliases_wrong.Goals as goal

pub definitions-preserved : goal.definitions-preserved
definitions-preserved c = each_next definition_of (λ d. each rules.alias_wrong_at (sites_of d)) c.args.definitions.now c.definitions.definition-index c.definition-item.result _ _ _ (omega arith) c.definition-item.is c.note_definition.ensures c.definitions.invariant
