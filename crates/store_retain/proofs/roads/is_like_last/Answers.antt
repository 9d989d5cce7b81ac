-- The last trail is among them.
use Rattle.std.proofs.Common.{◌-◌, length, ◌∙◌, sym, true≢false}
use Rattle.store_retain.proofs.AlikeSteps.{more_alike}
use Rattle.store_retain.proofs.roads.is_like_last.Goals as goal
use Rattle.store_retain.specs.TrailView.{way_of}

pub returns-in-Some : goal.returns-in-Some
returns-in-Some c = λ like.
    more_alike c.args.trails.now (length c.args.trails.now - 1) c.in-Some.last.now (way_of c.args.trail.now) (sym c.in-Some.ensures.value) (sym c.is_like.ensures ∙ like)

pub returns-in-None : goal.returns-in-None
returns-in-None c = λ like. absurd (true≢false (sym like))
