-- What is noted and what is left are the whole.
use Rattle.std.proofs.Common.{◌≡◌, false, map, drop}
use Rattle.doc_merge.specs.Joined.{from_first, row_place, unlike}
use Rattle.doc_merge.specs.Places.{least_from}
use Rattle.doc_merge.specs.RowView.{row_of}
use Rattle.doc_merge.proofs.shape.note_unlike.Given as goal

abbrev pub invariant-rows : goal.invariant-rows
invariant-rows l =
    least_from l.least.at (map row_place (from_first (unlike (row_of l.schema l.first)) l.is_unlike (map (row_of l.schema) (drop l.row-index l.group))))
    ≡ least_from l.initial.least.at (map row_place (from_first (unlike (row_of l.schema l.first)) false (map (row_of l.schema) l.group)))
