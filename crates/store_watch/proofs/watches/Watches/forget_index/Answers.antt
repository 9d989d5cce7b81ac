use Rattle.std.proofs.Common.{◌≡◌, List, ap, ◌∙◌}
use Rattle.std.specs.Map.{values_of}
use Rattle.store_watch.proofs.Sound.{sound_forget}
use Rattle.store_watch.specs.Lists.{under}
use Rattle.store_watch.specs.Numbers.{numbers_of}
use Rattle.store_watch.specs.Rows.{seen_of}
use Rattle.store_watch.specs.declared.rows.Row.{Row}
use Rattle.store_watch.proofs.watches.Watches.forget_index.Goals as goal

pub invariant_of-self : goal.invariant_of-self
invariant_of-self c =
    let inside = c.self.inside in
    sound_forget (under inside.index.lists) (under c.new.result.lists) inside.late.items c.in_ok-numbers.numbers.items inside.all inside.next (seen_of (values_of inside.rows.entries))
    (c.in_ok-numbers.ensures ∙ ap (λ (rows : List Row). numbers_of (seen_of rows)) c.in_order.ensures) c.self.invariant
