-- What is put and what is left are the whole.
use Rattle.std.proofs.Common.{◌≡◌, ◌++◌, map, drop}
use Rattle.doc_merge.specs.Joined.{inner_rows}
use Rattle.doc_merge.specs.RowView.{row_of}
use Rattle.doc_merge.proofs.merging.inner_rows.Given as goal

abbrev pub invariant-rows : goal.invariant-rows
invariant-rows l =
    map (row_of l.schema) l.inner.items ++ inner_rows (map (row_of l.schema) (drop l.row-index l.rows)) ≡ inner_rows (map (row_of l.schema) l.rows)
