-- One more of the list.
use Rattle.std.proofs.Common.{arith}
use Rattle.constant_values.proofs.gql_graph_laws.LeastSteps.{each_next}
use Rattle.doc_uses.specs.doc_sites.SitesView.{site_of}
use Rattle.relay_marks.specs.Connections as spec
use Rattle.relay_dirs.proofs.rules.keys.note_sites.Goals as goal

pub sites-preserved : goal.sites-preserved
sites-preserved c = each_next site_of (spec.key_wrong_at c.args.schema.now) c.args.sites.now c.sites.site-index c.site-item.result _ _ _ (omega arith) c.site-item.is c.note_site.ensures c.sites.invariant
