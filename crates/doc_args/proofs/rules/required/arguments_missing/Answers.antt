-- One more of the list.
use Rattle.std.proofs.Common.{arith}
use Rattle.doc_uses.specs.schema_types.ArgumentRules as rules
use Rattle.gql_graph.specs.Rules.{each}
use Rattle.doc_uses.specs.doc_sites.SitesView.{definition_of}
use Rattle.gql_graph.proofs.LeastSteps.{each_next}
use Rattle.doc_args.proofs.rules.required.arguments_missing.Goals as goal

pub definitions-preserved : goal.definitions-preserved
definitions-preserved c = each_next definition_of (λ d. each rules.argument_missing (rules.calls_of c.args.schema.now d)) c.args.definitions.now c.definitions.definition-index c.definition-item.result _ _ _ (omega arith) c.definition-item.is c.in_ok-note_incomplete_in.ensures c.definitions.invariant
