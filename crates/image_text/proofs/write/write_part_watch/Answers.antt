use Rattle.image_text.proofs.RowLaws.{more, said}
use Rattle.image_text.proofs.write.write_part_watch.Goals as goal

pub returns-clause-row : goal.returns-clause-row
returns-clause-row c =
    c.in_ok-end_row.ensures c.args.out.items _
    (more (said c.as_str-4.ensures (said c.as_str-3.ensures (said c.as_str-2.ensures (said c.as_str.ensures c.in_ok-row.ensures c.in_ok-put_text.ensures) c.in_ok-put_text-2.ensures) c.in_ok-put_text-3.ensures) c.in_ok-put_text-4.ensures) c.in_ok-put_pairs.ensures.marks)
