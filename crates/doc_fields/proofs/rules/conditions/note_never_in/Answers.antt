-- One more selection, and all of them.
use Rattle.std.proofs.Common.{refl, arith}
use Rattle.doc_sites.specs.schema_types.FieldRules as rules
use Rattle.doc_sites.proofs.gql_graph_laws.LeastSteps.{each_next}
use Rattle.doc_sites.specs.SitesView.{site_of}
use Rattle.doc_sites.proofs.ListSteps.{noted_end}
use Rattle.doc_fields.proofs.rules.conditions.note_never_in.Goals as goal

pub sites-init : goal.sites-init
sites-init c = λ common. (common, λ fs t. refl)

pub sites-preserved : goal.sites-preserved
sites-preserved c = λ common.
    let s = c.sites.invariant common in (
      c.in_ok-note_never.ensures.common s.0,
      λ fs t. each_next site_of (rules.never_applies_at c.args.schema.now fs) c.args.sites.now c.sites.site-index c.site-item.result _ _ _ (omega arith) c.site-item.is (c.in_ok-note_never.ensures.noted fs t s.0) (s.1 fs t),
    )

pub returns-clause-noted : goal.returns-clause-noted
returns-clause-noted c = λ fs t common. noted_end site_of (rules.never_applies_at c.args.schema.now fs) c.args.sites.now c.sites.site-index _ _ (omega arith) ((c.sites.invariant common).1 fs t)

pub returns-clause-common : goal.returns-clause-common
returns-clause-common c = λ common. (c.sites.invariant common).0
