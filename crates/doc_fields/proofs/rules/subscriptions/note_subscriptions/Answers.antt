-- One more definition.
use Rattle.std.proofs.Common.{ℕ, List, map, ap, sym, arith}
use Rattle.doc_sites.specs.schema_types.FieldRules as rules
use Rattle.doc_sites.specs.gql_graph.Leasts.{least_from}
use Rattle.doc_sites.specs.schema_types.NameRules.{fragments}
use Rattle.doc_sites.specs.schema_types.Sites.{DefinitionAt}
use Rattle.doc_sites.proofs.gql_graph_laws.LeastSteps.{each_next}
use Rattle.doc_sites.specs.SitesView.{definition_of}
use Rattle.doc_sites.specs.Definitions.{on_operation}
use Rattle.doc_sites.proofs.DefinitionSteps.{over_operations}
use Rattle.doc_fields.proofs.rules.subscriptions.note_subscriptions.Goals as goal

pub definitions-init : goal.definitions-init
definitions-init c =
    let ds : List DefinitionAt = map definition_of c.args.definitions.now in
    ap (λ (ns : List ℕ). least_from c.args.least.now.at ns) (sym (over_operations (rules.subscription_wrong c.args.schema.now (fragments ds)) ds))

pub definitions-preserved : goal.definitions-preserved
definitions-preserved c =
    let ds : List DefinitionAt = map definition_of c.args.definitions.now in
    each_next definition_of (on_operation (rules.subscription_wrong c.args.schema.now (fragments ds))) c.args.definitions.now c.definitions.definition-index c.definition-item.result _ _ _ (omega arith)
    c.definition-item.is (c.in_ok-note_subscription_at.ensures (fragments ds) c.in_ok-found.ensures) c.definitions.invariant
