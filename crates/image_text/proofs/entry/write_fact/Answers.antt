use Rattle.image_text.proofs.RowLaws.{more, said}
use Rattle.image_text.proofs.entry.write_fact.Goals as goal

pub returns-clause-row : goal.returns-clause-row
returns-clause-row c =
    c.in_ok-end_row.ensures c.args.out.items _
    (more (more (said c.as_str.ensures c.in_ok-row.ensures c.in_ok-put_text.ensures) c.in_ok-put_text-2.ensures) c.in_ok-put_field.ensures.field)
