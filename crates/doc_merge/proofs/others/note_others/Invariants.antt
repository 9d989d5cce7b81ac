-- What is noted and what is left are the whole.
use Rattle.std.proofs.Common.{◌≡◌, map, drop}
use Rattle.doc_merge.specs.Cells.{none_seen, others}
use Rattle.doc_merge.specs.CellView.{has_other_in}
use Rattle.doc_merge.specs.Places.{least_from}
use Rattle.doc_merge.specs.RowView.{mark_of}
use Rattle.doc_merge.proofs.others.note_others.Given as goal

abbrev pub invariant-rows : goal.invariant-rows
invariant-rows l =
    least_from l.least.at (others (has_other_in l.others) (map mark_of (drop l.row-index l.rows))) ≡ least_from l.initial.least.at (others none_seen (map mark_of l.rows))
