-- The handle is live, and leaves.
use Rattle.std.proofs.Common.{is_some, ap, ◌∙◌}
use Rattle.store_retain.proofs.KeptSteps.{is_some-lookup, released_is}
use Rattle.store_retain.proofs.retained.Retained.release.Goals as goal
use Rattle.store_retain.specs.Kept.{is_live, released}

pub unwrap-held-requires : goal.unwrap-held-requires
unwrap-held-requires c =
    ap is_some (c.shift_remove.ensures.value) ∙ is_some-lookup c.as_str.result.now c.self.inside.live.entries
    ∙ (λ i. is_live (c.self.view_is i).live (c.as_str.ensures i)) ∙ c.requires

pub returns : goal.returns
returns c =
    released_is c.as_str.result.now c.self.inside.live.entries c.shift_remove.new.self.entries c.self.inside.released c.push_back.new.self c.unwrap-held.result c.shift_remove.result
    c.shift_remove.ensures.entries c.shift_remove.ensures.value c.unwrap-held.ensures c.push_back.ensures.items
    ∙ (λ i. released (c.as_str.ensures i) (c.self.view_is i))
