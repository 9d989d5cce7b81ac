-- One more of the list, and all of them.
use Rattle.std.proofs.Common.{ℕ, List, map, ap, sym, ◌∙◌, arith}
use Rattle.doc_sites.specs.SitesView.{definition_of}
use Rattle.doc_sites.specs.gql_graph.Leasts.{least_from}
use Rattle.doc_sites.specs.schema_types.NameRules as names
use Rattle.doc_sites.proofs.gql_graph_laws.LeastSteps.{each_next}
use Rattle.doc_names.proofs.NameSteps.{no_root_in}
use Rattle.doc_sites.proofs.ListSteps.{noted_end}
use Rattle.doc_sites.proofs.DefinitionSteps.{over_operations}
use Rattle.doc_names.proofs.rules.roots.roots_missing.Goals as goal

pub definitions-preserved : goal.definitions-preserved
definitions-preserved c = each_next definition_of (no_root_in c.args.schema.now) c.args.definitions.now c.definitions.definition-index c.definition-item.result _ _ _ (omega arith) c.definition-item.is c.note_without_root_in.ensures c.definitions.invariant

pub returns : goal.returns
returns c =
    noted_end definition_of (no_root_in c.args.schema.now) c.args.definitions.now c.definitions.definition-index c.definitions.least.at _ (omega arith) c.definitions.invariant
    ∙ sym (ap (λ (places : List ℕ). least_from c.args.least.now.at places) (over_operations (λ o. names.without_root c.args.schema.now o o.name) (map definition_of c.args.definitions.now)))
