use Rattle.std.proofs.Common.{◌≡◌, List, [], ap, sym, subst, ◌∙◌}
use Rattle.std.specs.Map.{values_of}
use Rattle.store_watch.proofs.Sound.{sound_clear, sound_grows}
use Rattle.store_watch.specs.Lists.{under}
use Rattle.store_watch.specs.Numbers.{IsComplete, Rises, numbers_of}
use Rattle.store_watch.specs.Rows.{seen_of}
use Rattle.store_watch.specs.declared.rows.Row.{Row}
use Rattle.store_watch.proofs.watches.Watches.index_late.Goals as goal

pub put_late-requires : goal.put_late-requires
put_late-requires c = subst (λ (rows : List Row). Rises (numbers_of (seen_of rows))) (sym c.in_order.ensures) c.self.invariant.rises

pub invariant_of-self : goal.invariant_of-self
invariant_of-self c =
    let inside = c.self.inside in
    sound_grows (under inside.index.lists) (under c.put_late.new.index.lists) inside.late.items inside.all inside.next (seen_of (values_of inside.rows.entries)) c.put_late.ensures.grows c.self.invariant

pub invariant_of-self-2 : goal.invariant_of-self-2
invariant_of-self-2 c =
    let inside = c.self.inside in
    let rows = values_of inside.rows.entries in
    sound_clear (under inside.index.lists) (under c.put_late.new.index.lists) inside.late.items c.clear.new.self.items inside.all inside.next (seen_of rows) c.clear.ensures.items
    (λ all. subst (λ (rs : List Row). IsComplete (under inside.index.lists) c.deref.result.now (seen_of rs) → IsComplete (under c.put_late.new.index.lists) [] (seen_of rs)) c.in_order.ensures
    c.in_ok-put_late.ensures.complete (subst (λ late. IsComplete (under inside.index.lists) late (seen_of rows)) (sym c.deref.ensures.value) all))
    c.self.invariant
