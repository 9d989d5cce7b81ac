use Rattle.std.proofs.Common.{◌≡◌, ap, ◌∙◌, bytes_eq, string_bytes}
use Rattle.std.specs.Map.{remove_entry}
use Rattle.store_watch.proofs.Named.{watches_without}
use Rattle.store_watch.proofs.Sound.{sound_stop}
use Rattle.store_watch.specs.Lists.{under}
use Rattle.store_watch.specs.Rows.{watches_of}
use Rattle.store_watch.specs.Watching.{without}
use Rattle.store_watch.proofs.watches.Watches.stop.Goals as goal

pub invariant_of-self : goal.invariant_of-self
invariant_of-self c =
    let inside = c.self.inside in
    sound_stop (λ k. bytes_eq c.as_str.result.now (string_bytes k)) (under inside.index.lists) inside.late.items inside.all inside.next inside.rows.entries c.shift_remove.new.self.entries c.shift_remove.ensures.entries c.self.invariant

pub returns : goal.returns
returns c =
    let inside = c.self.inside in
    ap watches_of c.shift_remove.ensures.entries ∙ watches_without c.as_str.result.now inside.rows.entries ∙ (λ i. without (c.as_str.ensures i) (c.self.view_is i))
