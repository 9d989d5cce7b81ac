use Rattle.std.proofs.Common.{string_bytes, ap, ◌∙◌}
use Rattle.std.proofs.lemmas.Map.Text.{btree_map_updates_text}
use Rattle.std.specs.FinMap.{insert}
use Rattle.store_source.proofs.InMemory.{set_records}
use Rattle.store_source.specs.Entries.{records_of}
use Rattle.store_source.proofs.flat.set.Goals as goal

pub returns : goal.returns
returns c =
    let id = string_bytes c.into_string.result in
    set_records c.args.slots.now c.insert.new.self id c.in_ok-slot.slot c.args.slot c.in_ok-slot.ensures.ok
    (btree_map_updates_text id c.args.slots.now c.insert.new.self _ c.in_ok-insert.ensures.updates)
    ∙ ap (λ text. insert (records_of c.args.slots.now.entries) text c.args.slot) c.into_string.ensures
