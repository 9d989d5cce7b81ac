use Rattle.image_text.proofs.RowLaws.{said}
use Rattle.image_text.proofs.write.write_live.Goals as goal

pub returns : goal.returns
returns c =
    c.in_ok-end_row.ensures c.args.out.items _
    (said c.as_str-2.ensures (said c.as_str.ensures c.in_ok-row.ensures c.in_ok-put_text.ensures) c.in_ok-put_text-2.ensures)
