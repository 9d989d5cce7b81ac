-- What is retained, as it is kept.
use Rattle.std.specs.Prelude.{List, map, String, string_bytes}
use Rattle.std.specs.declared.alloc.Global.{Global}
use Rattle.circular_buffer.specs.Buffer.{Buffer}
use Rattle.plan_ir.specs.store_record.Keys.{Text}
use Rattle.store_retain.specs.Kept.{Kept}
use Rattle.store_retain.specs.declared.held.Held.{Held}

abbrev pub handle_of : String Global × Held → Text × Held
handle_of named = (string_bytes named.0, named.1)

abbrev pub live_of : List (String Global × Held) → List (Text × Held)
live_of named = map handle_of named

abbrev pub kept_of : List (String Global × Held) → Buffer Held → Kept
kept_of named b = record { buffer = b.capacity; live = live_of named; released = b.items }
