use Rattle.std.proofs.Common.{ap, sym, ◌∙◌, length}
use Rattle.store_watch.proofs.Named.{watches_length}
use Rattle.store_watch.proofs.watches.Watches.count.Goals as goal

pub returns : goal.returns
returns c = c.len.ensures.len ∙ sym (watches_length c.self.inside.rows.entries) ∙ ap length c.self.view_is
