use Rattle.std.proofs.Common.{◌≡◌, ◌++◌, ap, ◌∙◌}
use Rattle.store_watch.proofs.Found.{named_step, named_end}
use Rattle.store_watch.specs.Lists.{under}
use Rattle.store_watch.proofs.due.named_numbers.Goals as goal

pub touched-preserved : goal.touched-preserved
touched-preserved c =
    named_step (under c.args.index.now.lists) c.as_slice-id-items.result.now c.args.touched.now c.touched.id-index c.id-item.result c.as_str.result.now c.touched.numbers.items c.extend_from_slice.new.self.items _
    c.as_slice-id-items.ensures c.touched-test.true c.id-item.is c.as_str.ensures c.touched.invariant (c.in_ok-extend_from_slice.ensures.items ∙ ap (λ ys. c.touched.numbers.items ++ ys) c.at.ensures)

pub returns : goal.returns
returns c =
    named_end (under c.args.index.now.lists) c.as_slice-id-items.result.now c.args.touched.now c.touched.id-index c.touched.numbers.items _ c.as_slice-id-items.ensures c.touched-test.false c.touched.invariant
