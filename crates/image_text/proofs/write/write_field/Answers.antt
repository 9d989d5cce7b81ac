use Rattle.image_text.proofs.RowLaws.{more}
use Rattle.image_text.proofs.write.write_field.Goals as goal

pub returns-clause-row : goal.returns-clause-row
returns-clause-row c =
    c.in_ok-end_row.ensures c.args.out.items _
    (more (more c.in_ok-row.ensures c.in_ok-put_text.ensures) c.in_ok-put_field.ensures.field)
