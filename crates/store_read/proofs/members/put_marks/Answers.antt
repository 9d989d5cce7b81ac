-- Three members are put, where there is a pointer.
use Rattle.std.proofs.Common.{◌≡◌, false, nat_eq, length, sym, ◌∙◌}
use Rattle.store_read.proofs.MemberSteps.{marks_pushed}
use Rattle.store_read.proofs.members.put_marks.Goals as goal

pub returns : goal.returns
returns c =
    let some : nat_eq (length c.args.pointers) 0 ≡ false = sym c.is_empty.ensures ∙ c.if-is_empty.false in
    marks_pushed c.args.owner.now c.args.id.now c.args.pointers c.args.members.now.items c.push.new.self.items c.push-2.new.self.items c.push-3.new.self.items _ _ _ _ _
    c.in_ok-push.ensures.items c.in_ok-push-2.ensures.items c.in_ok-push-3.ensures.items
    c.in_ok-new.ensures c.in_ok-new-2.ensures c.in_ok-new-3.ensures c.in_ok-copy.ensures c.in_ok-copy-2.ensures some
