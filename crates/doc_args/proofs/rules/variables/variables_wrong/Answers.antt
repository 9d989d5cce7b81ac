-- One more definition, and all of them.
use Rattle.std.proofs.Common.{ℕ, List, map, ap, sym, ◌∙◌, arith}
use Rattle.doc_uses.specs.schema_types.ArgumentRules as rules
use Rattle.gql_graph.specs.Leasts.{least_from}
use Rattle.doc_uses.specs.schema_types.NameRules.{fragments}
use Rattle.doc_uses.specs.schema_types.Sites.{FragmentAt}
use Rattle.gql_graph.proofs.LeastSteps.{each_next}
use Rattle.doc_uses.specs.doc_sites.SitesView.{definition_of}
use Rattle.doc_uses.specs.doc_sites.Definitions.{on_operation}
use Rattle.doc_uses.proofs.doc_sites_laws.DefinitionSteps.{over_operations}
use Rattle.doc_uses.proofs.doc_sites_laws.ListSteps.{noted_end}
use Rattle.doc_args.proofs.rules.variables.variables_wrong.Goals as goal

pub definitions-preserved : goal.definitions-preserved
definitions-preserved c =
    let fs : List FragmentAt = fragments (map definition_of c.args.definitions.now) in
    each_next definition_of (on_operation (rules.variables_of_wrong c.args.schema.now fs)) c.args.definitions.now c.definitions.definition-index c.definition-item.result _ _ _ (omega arith) c.definition-item.is
    (c.in_ok-note_definition.ensures fs c.in_ok-known.ensures) c.definitions.invariant

pub returns : goal.returns
returns c =
    let fs : List FragmentAt = fragments (map definition_of c.args.definitions.now) in
    noted_end definition_of (on_operation (rules.variables_of_wrong c.args.schema.now fs)) c.args.definitions.now c.definitions.definition-index _ _ (omega arith) c.definitions.invariant
    ∙ sym (ap (λ (places : List ℕ). least_from c.args.least.now.at places) (over_operations (rules.variables_of_wrong c.args.schema.now fs) (map definition_of c.args.definitions.now)))
