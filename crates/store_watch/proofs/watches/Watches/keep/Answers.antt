use Rattle.std.proofs.Common.{◌≡◌, ◌≤◌, length, sym, ap, subst, ◌∙◌, arith}
use Rattle.store_read.specs.Reading.{reading_of}
use Rattle.store_watch.proofs.Named.{watches_length, watches_with, with_none}
use Rattle.store_watch.proofs.Sound.{sound_keep}
use Rattle.store_watch.specs.Lists.{under}
use Rattle.store_watch.specs.Rows.{watches_of}
use Rattle.store_watch.specs.Watching.{with_kept}
use Rattle.store_watch.proofs.watches.Watches.keep.Goals as goal

pub returns-then-place-len : goal.returns-then-place-len
returns-then-place-len c =
    let many = watches_length c.self.inside.rows.entries in
    sym (with_none c.args.self.now c.args.place (reading_of c.args.snapshot) (subst (λ ws. length ws ≤ c.args.place) c.self.view_is (omega (arith, many, c.if-place-len.true, c.len.ensures.len))))

pub invariant_of-self : goal.invariant_of-self
invariant_of-self c =
    let inside = c.self.inside in
    sound_keep (under inside.index.lists) inside.late.items c.note-self-inside.new.late.items inside.all c.note-self-inside.result inside.next c.args.place c.args.snapshot inside.rows.entries
    c.put_snapshot-number.new.rows.entries c.put_snapshot-number.result c.put_snapshot-number.ensures.number c.put_snapshot-number.ensures.rows c.note-self-inside.ensures.kept c.note-self-inside.ensures.noted c.self.invariant

pub returns : goal.returns
returns c =
    ap watches_of c.put_snapshot-number.ensures.rows ∙ watches_with c.self.inside.rows.entries c.args.place c.args.snapshot ∙ ap (λ ws. with_kept ws c.args.place (reading_of c.args.snapshot)) c.self.view_is
