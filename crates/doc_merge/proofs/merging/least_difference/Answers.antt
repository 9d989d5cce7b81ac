-- All fields of the whole set.
use Rattle.std.proofs.Common.{◌≡◌, List, [], ◌++◌, map, ap, ◌∙◌}
use Rattle.plan_ir.specs.schema_tables.Types.{Text, Defs}
use Rattle.doc_merge.specs.Gathering.{fields_in, fields_of}
use Rattle.doc_merge.specs.Paths.{places_of, rows_of}
use Rattle.doc_merge.specs.Places.{least_from}
use Rattle.doc_merge.specs.RowView.{row_of}
use Rattle.doc_merge.specs.declared.row.Row as code
use Rattle.doc_merge.proofs.MergeSteps.{whole_set}
use Rattle.doc_merge.proofs.merging.least_difference.Goals as goal

pub returns : goal.returns
returns c =
    let defs : Defs = c.args.schema.now in
    let rows_are : map (row_of defs) c.deref.result.now ≡ rows_of [] (fields_in defs c.args.expanded.now) =
    ap (map (row_of defs)) c.deref.ensures.value ∙ c.in_ok-put_fields.ensures
    ∙ ap (λ (rs : List code.Row). map (row_of defs) rs ++ rows_of [] (fields_of defs c.as_str-around.result.now c.args.expanded.now.selections)) c.new-rows.ensures.items
    ∙ ap (λ (around : Text). rows_of [] (fields_of defs around c.args.expanded.now.selections)) c.as_str-around.ensures in
    c.in_ok-note_set.ensures ∙ (λ k. least_from (c.new-least.ensures k) (places_of (rows_are k))) ∙ whole_set (fields_in defs c.args.expanded.now)
