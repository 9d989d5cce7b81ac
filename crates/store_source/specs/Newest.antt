-- A map with its newest changes laid over it.
use Rattle.std.specs.Prelude.{ℕ, List, [], ◌∷◌}
use Rattle.std.specs.FinMap as map
use Rattle.store_record.specs.declared.record.Slot.{Slot}
use Rattle.store_source.specs.Records.{Records}

-- the map after the changes, of which the newest is the first
abbrev pub laid : List (List ℕ × Slot) → Records → Records
laid [] m = m
laid (change ∷ changes) m = map.insert (laid changes m) change.0 change.1
