-- One more selection, and all of them.
use Rattle.std.proofs.Common.{arith}
use Rattle.constant_values.proofs.gql_graph_laws.LeastSteps.{each_next}
use Rattle.doc_uses.specs.doc_sites.SitesView.{site_of}
use Rattle.relay_rules.specs.Spreads.{given_wrong_at}
use Rattle.doc_uses.proofs.doc_sites_laws.ListSteps.{noted_end}
use Rattle.relay_dirs.proofs.rules.spreads.note_given_among.Goals as goal

pub sites-preserved : goal.sites-preserved
sites-preserved c = λ fs h.
    each_next site_of (given_wrong_at c.args.schema.now fs) c.args.sites.now c.sites.site-index c.site-item.result _ _ _ (omega arith) c.site-item.is
    (c.in_ok-note_given_at.ensures fs h) (c.sites.invariant fs h)

pub returns : goal.returns
returns c = λ fs h. noted_end site_of (given_wrong_at c.args.schema.now fs) c.args.sites.now c.sites.site-index _ _ (omega arith) (c.sites.invariant fs h)
