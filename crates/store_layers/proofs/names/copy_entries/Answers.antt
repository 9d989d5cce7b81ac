use Rattle.store_layers.proofs.Places.{same_layers}
use Rattle.store_layers.proofs.names.copy_entries.Goals as goal

pub returns : goal.returns
returns c = same_layers c.args.entries.now.entries c.in_ok-copy.copy.entries c.in_ok-copy.ensures.cases
