-- One more field.
use Rattle.std.proofs.Common.{arith}
use Rattle.doc_merge.specs.Joined.{unlike}
use Rattle.doc_merge.specs.RowView.{row_of}
use Rattle.doc_merge.proofs.NoteSteps.{unlike_next}
use Rattle.doc_merge.proofs.shape.note_unlike.Goals as goal

pub rows-preserved : goal.rows-preserved
rows-preserved c =
    unlike_next (row_of c.args.schema.now) (unlike (row_of c.args.schema.now c.args.first.now)) c.args.group.now c.rows.row-index c.row-item.result c.rows.is_unlike _ _ _ _ (omega arith) c.row-item.is
    c.is_or_unlike-is_unlike.ensures c.note_if.ensures c.rows.invariant
