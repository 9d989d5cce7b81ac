use Rattle.std.proofs.Common.{◌∙◌}
use Rattle.store_model.specs.gql_plain.Shown.{tree_of}
use Rattle.image_text.proofs.RowLaws.{marks_put}
use Rattle.image_text.proofs.row.put_marks.Goals as goal

pub returns-clause-marks : goal.returns-clause-marks
returns-clause-marks c = record {
  begun = c.in_ok-end_array.ensures.room.0 ∙ c.in_ok-write_marks.ensures.before ∙ c.in_ok-begin_array.ensures.room.0;
  tokens = marks_put c.args.row.now.tokens (tree_of c.args.plain.now) c.in_ok-begin_array.ensures.ok c.in_ok-write_marks.ensures.tokens c.in_ok-end_array.ensures.ok;
}
