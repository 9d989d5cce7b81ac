-- The road at the place has one trail more.
use Rattle.std.proofs.Common.{◌∷◌, [], map, ap, ◌∙◌}
use Rattle.std.proofs.lemmas.List.{map-append}
use Rattle.store_retain.proofs.PutSteps.{put_behind_is}
use Rattle.store_retain.proofs.roads.put_behind.Goals as goal
use Rattle.store_retain.specs.TrailView.{way_at, way_of}

pub returns : goal.returns
returns c =
    put_behind_is c.args.roads.now.items c.args.place c.index_mut-road.result.now _ (way_of c.args.trail.now) c.requires c.index_mut-road.ensures.value
    (λ i. record { response = c.index_mut-road.result.now.response.now; ways = (ap (map way_at) c.in_ok-push.ensures.items ∙ map-append way_at c.index_mut-road.result.now.trails.items (record { trail = c.args.trail } ∷ [])) i })
