-- At first none differs; one more field.
use Rattle.std.proofs.Common.{map, ap, arith}
use Rattle.doc_merge.specs.Cells.{none_seen}
use Rattle.doc_merge.specs.CellView.{has_other_in}
use Rattle.doc_merge.specs.Places.{least_from}
use Rattle.doc_merge.specs.RowView.{mark_of}
use Rattle.doc_merge.proofs.CellLaws.{others_same}
use Rattle.doc_merge.proofs.OtherSteps.{others_next}
use Rattle.doc_merge.proofs.others.note_others.Goals as goal

pub rows-init : goal.rows-init
rows-init c = ap (least_from c.args.least.now.at) (others_same (has_other_in c.new-others.result) none_seen c.new-others.ensures (map mark_of c.args.rows.now))

pub rows-preserved : goal.rows-preserved
rows-preserved c =
    others_next mark_of c.args.rows.now c.rows.row-index c.row-item.result _ (has_other_in c.rows.others) _ _ _ _ (omega arith) c.row-item.is c.has_other-is_wrong.ensures c.in_ok-put.ensures c.note_if.ensures c.rows.invariant
