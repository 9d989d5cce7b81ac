use Rattle.std.proofs.Common.{◌≡◌, [], ◌∷◌, ◌++◌, false, sym, ap, subst, ◌∙◌, arith, rules, Some}
use Rattle.store_watch.proofs.Named.{watches_append}
use Rattle.store_watch.proofs.Sound.{sound_start}
use Rattle.store_watch.specs.Lists.{under}
use Rattle.store_watch.specs.Numbers.{noted}
use Rattle.store_watch.specs.Rows.{look_of, watches_of}
use Rattle.store_watch.specs.Watching.{Watch, is_live}
use Rattle.store_read.specs.Reading.{reading_of}
use Rattle.store_watch.proofs.watches.Watches.start.Goals as goal

pub put_row-requires : goal.put_row-requires
put_row-requires c = (λ i. is_live (c.self.view_is i) (c.into_string.ensures i)) ∙ c.requires

pub invariant_of-self-2 : goal.invariant_of-self-2
invariant_of-self-2 c =
    let inside = c.self.inside in
    sound_start (under inside.index.lists) inside.late.items c.note-self-inside.new.late.items inside.all c.note-self-inside.result c.in-Some.next inside.rows.entries c.put_row.new.rows.entries
    c.into_string.result (record { number = inside.next; what = c.args.what; kept = c.args.first }) (search rules) c.in_ok-put_row.ensures.put
    c.note-self-inside.ensures.kept (λ e. c.note-self-inside.ensures.noted e ∙ ap (λ xs. xs ++ noted (Some inside.next)) c.put_row.ensures.late) c.self.invariant

pub returns-clause-ok : goal.returns-clause-ok
returns-clause-ok c =
    let inside = c.self.inside in
    let old = watches_of inside.rows.entries in
    ap watches_of c.in_ok-put_row.ensures.put ∙ watches_append inside.rows.entries _
    ∙ (λ i. c.self.view_is i ++ record { name = c.into_string.ensures i; what = look_of c.args.what; kept = reading_of c.args.first } ∷ [])
