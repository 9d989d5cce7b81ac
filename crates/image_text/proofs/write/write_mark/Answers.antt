use Rattle.image_text.proofs.RowLaws.{more, said}
use Rattle.image_text.proofs.write.write_mark.Goals as goal

pub returns : goal.returns
returns c =
    c.in_ok-end_row.ensures c.args.out.items _
    (more (said c.as_str.ensures c.in_ok-row.ensures c.in_ok-put_text.ensures) c.in_ok-put_count.ensures)
