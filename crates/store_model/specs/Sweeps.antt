-- Sweeps: the records without the ids that are not kept.
use Rattle.std.specs.Prelude.{Bool, not, List}
use Rattle.std.specs.FinMap as map
use Rattle.std.specs.List.{filter}
use Rattle.store_record.specs.Keys.{Text}
use Rattle.store_model.specs.Records.{Records}

-- the slots of the ids that are kept, live or deleted; every other id is absent
abbrev pub sweep : (keep : Text → Bool) → Records → Records
sweep keep m = map.retain_keys m keep

-- the ids that a sweep takes out, in byte order
abbrev pub dropped : (keep : Text → Bool) → Records → List Text
dropped keep m = filter (λ id. not (keep id)) (map.keys m)
