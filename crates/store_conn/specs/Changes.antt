-- Records that are put one after another.
use Rattle.std.specs.Prelude.{ℕ, List, [], ◌∷◌, Option, Some}
use Rattle.store_model.specs.store_record.Keys.{Text}
use Rattle.store_model.specs.store_record.declared.record.Record.{Record}
use Rattle.store_model.specs.Records.{Records, with_record}
use Rattle.store_model.specs.Merge.{edge_id, next_edge}
use Rattle.store_conn.specs.declared.changes.Change.{Change}

-- the records with each row at its id, in their order
abbrev pub put_all : List Change → Records → Records
put_all [] m = m
put_all (c ∷ cs) m = put_all cs (with_record c.id c.row m)

-- the rows of edges that are made, numbered from k
abbrev pub edge_changes : Text → ℕ → List Record → List Change
edge_changes connection k [] = []
edge_changes connection k (e ∷ es) = record { id = edge_id connection k; row = e } ∷ edge_changes connection (next_edge k) es

-- the ids of rows, as a list of edges has them
abbrev pub edge_ids_of : List Change → List (Option Text)
edge_ids_of [] = []
edge_ids_of (c ∷ cs) = Some c.id ∷ edge_ids_of cs
