-- A trail that is like the last, and another one.
use Rattle.std.proofs.Common.{rules, ◌≡◌, ◌++◌, ◌∷◌, [], true, map, subst}
use Rattle.store_retain.proofs.AlikeSteps.{pushed_alike}
use Rattle.store_retain.proofs.roads.put_unlike.Goals as goal
use Rattle.store_retain.specs.Steps.{LeadAlike}
use Rattle.store_retain.specs.TrailView.{way_at, way_of}

pub returns-then-is_like_last : goal.returns-then-is_like_last
returns-then-is_like_last c =
    let like : c.is_like_last.result ≡ true = search rules in
    subst (λ ts. LeadAlike (map way_at ts) (map way_at ts ++ way_of c.args.trail.now ∷ [])) c.deref.ensures.value (c.is_like_last.ensures like)

pub returns : goal.returns
returns c = pushed_alike c.args.trails.now.items c.push.new.self.items (record { trail = c.args.trail }) c.in_ok-push.ensures.items
