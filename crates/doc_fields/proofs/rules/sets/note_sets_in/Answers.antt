-- One more selection.
use Rattle.std.proofs.Common.{arith}
use Rattle.doc_sites.specs.schema_types.FieldRules as rules
use Rattle.doc_sites.proofs.gql_graph_laws.LeastSteps.{each_next}
use Rattle.doc_sites.specs.SitesView.{site_of}
use Rattle.doc_fields.proofs.rules.sets.note_sets_in.Goals as goal

pub sites-preserved : goal.sites-preserved
sites-preserved c = each_next site_of (rules.set_wrong_at c.args.schema.now) c.args.sites.now c.sites.site-index c.site-item.result _ _ _ (omega arith) c.site-item.is c.note_set.ensures c.sites.invariant
