-- One more of the list.
use Rattle.std.proofs.Common.{arith}
use Rattle.doc_uses.specs.schema_types.ArgumentRules as rules
use Rattle.doc_uses.specs.doc_sites.SitesView.{site_of}
use Rattle.doc_args.proofs.Steps.{each_next_mapped}
use Rattle.doc_args.proofs.rules.directives.note_sites.Goals as goal

pub sites-preserved : goal.sites-preserved
sites-preserved c = each_next_mapped site_of rules.directed_at (rules.directed_wrong c.args.schema.now) c.args.sites.now c.sites.site-index c.site-item.result _ _ _ (omega arith) c.site-item.is c.in_ok-note_site.ensures c.sites.invariant
