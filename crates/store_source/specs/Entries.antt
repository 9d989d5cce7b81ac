-- The entries of a map in memory, as records.
use Rattle.std.specs.Prelude.{ℕ, List, map, String, string_bytes}
use Rattle.std.specs.FinMap.{from_entries}
use Rattle.std.specs.declared.alloc.Global.{Global}
use Rattle.std.specs.declared.rc.Rc.{Rc}
use Rattle.store_record.specs.declared.record.Slot.{Slot}
use Rattle.store_source.specs.Records.{Records}

-- the id and the slot of an entry
abbrev pub pair_of : String Global × Rc Slot Global → List ℕ × Slot
pair_of entry = (string_bytes entry.0, entry.1.value)

-- the records of entries
abbrev pub records_of : List (String Global × Rc Slot Global) → Records
records_of entries = from_entries (map pair_of entries)
