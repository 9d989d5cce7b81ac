-- One more of the list.
use Rattle.std.proofs.Common.{arith}
use Rattle.constant_values.proofs.gql_graph_laws.LeastSteps.{each_next}
use Rattle.doc_uses.specs.doc_sites.SitesView.{site_of}
use Rattle.relay_rules.specs.RelayRules as rules
use Rattle.relay_dirs.proofs.rules.aliases.note_sites.Goals as goal

pub sites-preserved : goal.sites-preserved
sites-preserved c = each_next site_of (rules.alias_wrong_at) c.args.sites.now c.sites.site-index c.site-item.result _ _ _ (omega arith) c.site-item.is c.note_site.ensures c.sites.invariant
