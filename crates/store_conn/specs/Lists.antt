-- How many records a walk over lists of edges looks at.
use Rattle.std.specs.Prelude.{ℕ, ◌+◌, List, length, Option}
use Rattle.store_model.specs.store_record.Keys.{Text}
use Rattle.store_model.specs.store_record.declared.record.Record.{Record}
use Rattle.store_model.specs.Entries.{some_ids}
use Rattle.store_model.specs.Merge.{edges_of}

-- one for each id of the list
abbrev pub ids_in : List (Option Text) → ℕ
ids_in edges = length (some_ids edges)

-- one for each id of the list of a connection
abbrev pub edges_in : Record → ℕ
edges_in row = ids_in (edges_of row)
