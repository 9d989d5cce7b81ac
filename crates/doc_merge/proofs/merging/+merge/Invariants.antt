-- What is noted and what is left are the whole; the sets below are less deep.
use Rattle.std.proofs.Common.{◌+◌, ◌*◌, List, map}
use Rattle.plan_ir.specs.schema_tables.Types.{Text}
use Rattle.doc_merge.specs.GroupView.{Gathers}
use Rattle.doc_merge.specs.Joined.{rows_depth}
use Rattle.doc_merge.specs.RowView.{row_of}
use Rattle.doc_merge.specs.declared.row.Row.{Row}
use Rattle.doc_merge.proofs.MergeSteps.{Turn}
use Rattle.doc_merge.proofs.merging.+merge.Given as goal

abbrev pub decreases-note_set : goal.decreases-note_set
decreases-note_set l = 2 * rows_depth (map (row_of l.schema.now) l.rows.now) + 1

abbrev pub decreases-note_group : goal.decreases-note_group
decreases-note_group l = 2 * rows_depth (map (row_of l.schema.now) l.group.now)

abbrev pub invariant-note_set-rows : goal.invariant-note_set-rows
invariant-note_set-rows l = (tells : Text → List Row) × Gathers l.groups tells × Turn l.schema l.rows l.row-index l.least.at l.initial.least.at tells
