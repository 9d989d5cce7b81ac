-- One more selection, and all of them.
use Rattle.std.proofs.Common.{arith}
use Rattle.doc_uses.specs.doc_sites.SitesView.{site_of}
use Rattle.relay_rules.specs.Spreads.{uses_at_spread}
use Rattle.doc_uses.proofs.doc_sites_laws.ListSteps.{collect_next, collect_end}
use Rattle.relay_dirs.proofs.spread_uses.uses_in_spreads.Goals as goal

pub sites-preserved : goal.sites-preserved
sites-preserved c = λ fs h.
    collect_next site_of (uses_at_spread c.args.schema.now fs) c.args.sites.now c.sites.site-index c.site-item.result _ _ _ (omega arith) c.site-item.is (c.in_ok-put_site.ensures fs h) (c.sites.invariant fs h)

pub returns : goal.returns
returns c = λ fs h. collect_end site_of (uses_at_spread c.args.schema.now fs) c.args.sites.now c.sites.site-index _ _ (omega arith) (c.sites.invariant fs h)
