use Rattle.std.proofs.lemmas.Map.Text.{btree_map_updates_text}
use Rattle.store_source.proofs.InMemory.{unset_records}
use Rattle.store_source.proofs.flat.unset.Goals as goal

pub returns : goal.returns
returns c =
    unset_records c.args.slots.now c.remove.new.self c.args.id.now
    (btree_map_updates_text c.args.id.now c.args.slots.now c.remove.new.self _ c.remove.ensures.updates)
