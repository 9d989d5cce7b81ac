use Rattle.image_text.proofs.RowLaws.{more}
use Rattle.image_text.proofs.write.write_head.Goals as goal

pub returns : goal.returns
returns c =
    c.in_ok-end_row.ensures c.args.out.items _
    (more (more (more (more (more c.in_ok-row.ensures c.in_ok-put_count.ensures) c.in_ok-put_count-2.ensures) c.in_ok-put_count-3.ensures) c.in_ok-put_count-4.ensures) c.in_ok-put_count-5.ensures)
