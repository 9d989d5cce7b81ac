-- The definitions are those of the documents.
use Rattle.std.proofs.Common.{map, ap, ◌∙◌}
use Rattle.doc_sites.specs.SitesView.{definition_of}
use Rattle.doc_fields.proofs.check.check_fields.Goals as goal

pub check_fields_of-requires : goal.check_fields_of-requires
check_fields_of-requires c = ap (map definition_of) c.deref.ensures.value ∙ c.in_ok-definitions.ensures
