use Rattle.std.proofs.Common.{ap, ◌∙◌}
use Rattle.store_watch.specs.Watching.{is_live}
use Rattle.store_watch.proofs.watches.Watches.is_live.Goals as goal

pub returns : goal.returns
returns c = c.is_named.ensures ∙ ap (λ ws. is_live ws c.args.name.now) c.self.view_is
