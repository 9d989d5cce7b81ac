-- One row more.
use Rattle.std.proofs.Common.{◌++◌, map, ap, ◌∙◌, arith}
use Rattle.plan_ir.specs.schema_tables.Types.{Text}
use Rattle.doc_merge.specs.Gathering.{fields_of}
use Rattle.doc_merge.specs.Paths.{rows_of}
use Rattle.doc_merge.specs.RowView.{pattern_of, row_of}
use Rattle.doc_merge.proofs.MergeSteps.{inner_next}
use Rattle.doc_merge.proofs.merging.inner_rows.Goals as goal

pub rows-preserved : goal.rows-preserved
rows-preserved c =
    inner_next c.args.schema.now c.args.rows.now c.rows.row-index c.row-item.result _ _ _ (omega arith) c.row-item.is
    (c.in_ok-put_fields.ensures
    ∙ ap (λ (around : Text). map (row_of c.args.schema.now) c.rows.inner.items ++ rows_of (pattern_of c.row-item.result) (fields_of c.args.schema.now around c.row-item.result.field.selections.now)) c.base_of-around.ensures)
    c.rows.invariant
