-- One more of the list, and all of them.
use Rattle.std.proofs.Common.{ℕ, List, map, ap, sym, ◌∙◌, arith}
use Rattle.doc_sites.specs.SitesView.{definition_of}
use Rattle.doc_sites.specs.gql_graph.Leasts.{least_from}
use Rattle.doc_sites.specs.schema_types.NameRules as names
use Rattle.doc_sites.proofs.gql_graph_laws.LeastSteps.{each_next}
use Rattle.doc_sites.specs.Definitions.{on_operation}
use Rattle.doc_sites.proofs.ListSteps.{noted_end}
use Rattle.doc_sites.proofs.DefinitionSteps.{over_operations}
use Rattle.doc_names.proofs.rules.operations.note_without_names.Goals as goal

pub definitions-preserved : goal.definitions-preserved
definitions-preserved c = each_next definition_of (on_operation names.without_name) c.args.definitions.now c.definitions.definition-index c.definition-item.result _ _ _ (omega arith) c.definition-item.is c.note_without_name_in.ensures c.definitions.invariant

pub returns : goal.returns
returns c =
    noted_end definition_of (on_operation names.without_name) c.args.definitions.now c.definitions.definition-index c.definitions.least.at _ (omega arith) c.definitions.invariant
    ∙ sym (ap (λ (places : List ℕ). least_from c.args.least.now.at places) (over_operations names.without_name (map definition_of c.args.definitions.now)))
