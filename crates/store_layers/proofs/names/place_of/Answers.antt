use Rattle.std.proofs.Common.{sym, ◌∙◌}
use Rattle.store_layers.proofs.Places.{is_some-lookup, position_is}
use Rattle.store_layers.proofs.names.place_of.Goals as goal

pub unwrap-requires : goal.unwrap-requires
unwrap-requires c = c.get_index_of.ensures.found ∙ is_some-lookup c.args.name.now c.args.entries.now.entries ∙ c.requires

pub returns : goal.returns
returns c = position_is c.args.name.now c.args.entries.now.entries c.unwrap.result (sym c.get_index_of.ensures.index ∙ c.unwrap.ensures)
