-- All so far are like the first.
use Rattle.std.proofs.Common.{◌≡◌, map, drop}
use Rattle.doc_merge.specs.Cells.{are_like}
use Rattle.doc_merge.specs.RowView.{mark_of}
use Rattle.doc_merge.proofs.others.are_like.Given as goal

abbrev pub invariant-rows : goal.invariant-rows
invariant-rows l = are_like (mark_of l.first) (map mark_of (drop l.row-index l.rows)) ≡ are_like (mark_of l.first) (map mark_of l.rows)
