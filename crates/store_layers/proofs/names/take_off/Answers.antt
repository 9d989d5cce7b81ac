use Rattle.std.proofs.Common.{ap, ◌∙◌}
use Rattle.store_layers.proofs.Removed.{layers_removed}
use Rattle.store_layers.proofs.names.take_off.Goals as goal
use Rattle.store_layers.specs.Versions.{layers_of}

pub returns-clause-layers : goal.returns-clause-layers
returns-clause-layers g c = ap layers_of c.shift_remove_index.ensures.entries ∙ layers_removed c.args.entries.now.entries c.args.at
