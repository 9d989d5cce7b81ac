-- The cells so far have other patterns.
use Rattle.std.proofs.Common.{◌≡◌, ◌≤◌, ◌-◌, length}
use Rattle.doc_merge.specs.RowView.{mark_of}
use Rattle.doc_merge.proofs.CellSteps.{Passed}
use Rattle.doc_merge.proofs.cells.Cells.put.Given as goal

abbrev pub invariant-cells : goal.invariant-cells
invariant-cells l = (l.at ≤ length l.self.cells.items) × (l.self ≡ l.fn.self) × Passed l.self.cells.items (mark_of l.row) l.at

abbrev pub decreases-cells : goal.decreases-cells
decreases-cells l = length l.self.cells.items - l.at
