use Rattle.store_model.proofs.Led.{leads-least}
use Rattle.store_model.proofs.leads.leads_is_least.Goals as goal

pub returns : goal.returns
returns c = leads-least
