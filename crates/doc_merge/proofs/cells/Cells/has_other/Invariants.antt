-- None so far has another.
use Rattle.std.proofs.Common.{◌≡◌, map, drop}
use Rattle.std.specs.List.{list_any}
use Rattle.doc_merge.specs.Cells.{is_other}
use Rattle.doc_merge.specs.CellView.{cell_of}
use Rattle.doc_merge.specs.RowView.{mark_of}
use Rattle.doc_merge.proofs.cells.Cells.has_other.Given as goal

abbrev pub invariant-cells : goal.invariant-cells
invariant-cells l =
    list_any (is_other (mark_of l.row)) (map cell_of (drop l.cell-index l.self.cells.items)) ≡ list_any (is_other (mark_of l.row)) (map cell_of l.self.cells.items)
