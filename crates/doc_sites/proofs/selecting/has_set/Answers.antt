-- A set has a selection or is empty.
use Rattle.doc_sites.proofs.SiteSteps.{has_set_is}
use Rattle.doc_sites.proofs.selecting.has_set.Goals as goal

pub returns : goal.returns
returns c = has_set_is c.args.selections.now c.is_empty.result c.is_empty.ensures
