-- One more definition.
use Rattle.std.proofs.Common.{List, ap, ◌∙◌, arith}
use Rattle.doc_sites.specs.schema_types.FieldRules as rules
use Rattle.doc_sites.specs.gql_graph.Leasts.{least_from}
use Rattle.doc_sites.specs.schema_types.NameRules.{sites_of}
use Rattle.doc_sites.specs.gql_graph.Rules.{each}
use Rattle.doc_sites.specs.schema_types.Sites.{Site}
use Rattle.doc_sites.proofs.gql_graph_laws.LeastSteps.{each_next}
use Rattle.doc_sites.specs.SitesView.{definition_of}
use Rattle.doc_fields.proofs.rules.undefined.fields_undefined.Goals as goal

pub definitions-preserved : goal.definitions-preserved
definitions-preserved c =
    each_next definition_of (λ d. each (rules.undefined_at c.args.schema.now) (sites_of d)) c.args.definitions.now c.definitions.definition-index c.definition-item.result
    c.definitions.least.at c.note_undefined_in.new.least.at _ (omega arith) c.definition-item.is
    (c.note_undefined_in.ensures ∙ ap (λ (ss : List Site). least_from c.definitions.least.at (each (rules.undefined_at c.args.schema.now) ss)) c.sites.ensures) c.definitions.invariant
