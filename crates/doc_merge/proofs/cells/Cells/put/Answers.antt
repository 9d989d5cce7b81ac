-- The cell of this pattern has a field more.
use Rattle.std.proofs.Common.{◌≡◌, ◌<◌, length, ap, sym, ◌∙◌, arith}
use Rattle.doc_merge.specs.Cells as spec
use Rattle.doc_merge.specs.CellView.{cell_of, cells_of}
use Rattle.doc_merge.specs.Joined.{same_pattern}
use Rattle.doc_merge.specs.RowView.{mark_of}
use Rattle.doc_merge.specs.declared.cells.Cell.{Cell}
use Rattle.doc_merge.specs.declared.cells.Cells.{Cells}
use Rattle.doc_merge.proofs.CellSteps.{put_here, same_cell}
use Rattle.doc_merge.proofs.cells.Cells.put.Goals as goal

pub returns-then-same_pattern : goal.returns-then-same_pattern
returns-then-same_pattern c =
    let low : c.cells.at < length c.cells.self.cells.items = omega arith in
    let one : c.index.result.now ≡ c.index-then-same_pattern.result.now = same_cell c.cells.self.cells.items c.cells.at _ _ low c.index.ensures c.index-then-same_pattern.ensures in
    put_here c.cells.self.cells.items (mark_of c.args.row.now) c.cells.at c.index-then-same_pattern.result.now c.with_row-cell.result low c.index-then-same_pattern.ensures
    (sym (ap (λ (x : Cell). same_pattern (cell_of x).pattern (mark_of c.args.row.now).pattern) one) ∙ sym c.same_pattern.ensures ∙ c.if-same_pattern.true) c.with_row-cell.ensures c.cells.invariant.2
    ∙ ap (λ (cells : Cells). spec.put (cells_of cells) (mark_of c.args.row.now)) c.cells.invariant.1
