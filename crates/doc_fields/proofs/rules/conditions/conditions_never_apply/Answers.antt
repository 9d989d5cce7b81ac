-- One more definition, and all of them.
use Rattle.std.proofs.Common.{List, map, refl, ap, ◌∙◌, arith}
use Rattle.doc_sites.specs.schema_types.FieldRules as rules
use Rattle.doc_sites.specs.gql_graph.Leasts.{least_from}
use Rattle.doc_sites.specs.schema_types.NameRules.{fragments, sites_of}
use Rattle.doc_sites.specs.gql_graph.Rules.{each}
use Rattle.doc_sites.specs.schema_types.Sites.{Site, FragmentAt}
use Rattle.doc_sites.proofs.gql_graph_laws.LeastSteps.{each_next}
use Rattle.doc_sites.specs.SitesView.{definition_of}
use Rattle.doc_sites.proofs.ListSteps.{noted_end}
use Rattle.doc_fields.proofs.rules.conditions.conditions_never_apply.Goals as goal

pub definitions-init : goal.definitions-init
definitions-init c = (c.new-common.ensures c.args.schema.now, refl)

pub definitions-preserved : goal.definitions-preserved
definitions-preserved c =
    let s = c.definitions.invariant in
    let fs : List FragmentAt = fragments (map definition_of c.args.definitions.now) in (
      c.in_ok-note_never_in.ensures.common s.0,
      each_next definition_of (λ d. each (rules.never_applies_at c.args.schema.now fs) (sites_of d)) c.args.definitions.now c.definitions.definition-index c.definition-item.result
          c.definitions.least.at c.note_never_in.new.least.at _ (omega arith) c.definition-item.is
          (c.in_ok-note_never_in.ensures.noted fs c.in_ok-conditions.ensures s.0 ∙ ap (λ (ss : List Site). least_from c.definitions.least.at (each (rules.never_applies_at c.args.schema.now fs) ss)) c.sites.ensures) s.1,
    )

pub returns : goal.returns
returns c =
    let fs : List FragmentAt = fragments (map definition_of c.args.definitions.now) in
    noted_end definition_of (λ d. each (rules.never_applies_at c.args.schema.now fs) (sites_of d)) c.args.definitions.now c.definitions.definition-index _ _ (omega arith) c.definitions.invariant.1
