-- The definitions are those of the documents.
use Rattle.std.proofs.Common.{map, ap, ◌∙◌}
use Rattle.doc_uses.specs.doc_sites.SitesView.{definition_of}
use Rattle.relay_dirs.proofs.check.check_relay.Goals as goal

pub check_relay_of-requires : goal.check_relay_of-requires
check_relay_of-requires c = ap (map definition_of) c.deref.ensures.value ∙ c.in_ok-definitions.ensures
