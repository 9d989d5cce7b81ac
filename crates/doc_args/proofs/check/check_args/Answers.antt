-- The definitions are those of the documents.
use Rattle.std.proofs.Common.{map, ap, ◌∙◌}
use Rattle.doc_uses.specs.doc_sites.SitesView.{definition_of}
use Rattle.doc_args.proofs.check.check_args.Goals as goal

pub check_args_of-requires : goal.check_args_of-requires
check_args_of-requires c = ap (map definition_of) c.deref.ensures.value ∙ c.in_ok-definitions.ensures
