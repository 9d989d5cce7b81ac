use Rattle.std.proofs.Common.{ap, ◌∙◌}
use Rattle.store_watch.specs.Watching.{uses}
use Rattle.store_watch.proofs.watches.Watches.uses.Goals as goal

pub returns : goal.returns
returns c = c.is_used.ensures ∙ ap (λ ws. uses ws c.args.handle.now) c.self.view_is
