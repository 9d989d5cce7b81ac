-- What a snapshot tells.
use Rattle.std.specs.FinMap as map
use Rattle.plan_ir.specs.gql_plain.Shown.{tree_of}
use Rattle.plan_ir.specs.store_model.Walks.{Reading, Slots}
use Rattle.store_read.specs.declared.snapshot.Snapshot.{Snapshot}
use Rattle.store_source.specs.Records.{Records}

-- the slots of a map of records
abbrev pub slots : Records → Slots
slots m = λ id. map.get m id

abbrev pub reading_of : Snapshot → Reading
reading_of snapshot = record { value = tree_of snapshot.shown; missing = snapshot.missing; seen = snapshot.seen }
