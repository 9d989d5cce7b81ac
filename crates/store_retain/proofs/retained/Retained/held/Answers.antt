-- The first of the name.
use Rattle.std.proofs.Common.{ap, ◌∙◌}
use Rattle.store_retain.proofs.KeptSteps.{lookup_is}
use Rattle.store_retain.proofs.retained.Retained.held.Goals as goal
use Rattle.store_retain.specs.Kept.{Kept, held_under}

pub returns : goal.returns
returns c = c.get.ensures.value ∙ lookup_is c.args.handle.now c.self.inside.live.entries ∙ ap (λ (k : Kept). held_under c.args.handle.now k.live) c.self.view_is
