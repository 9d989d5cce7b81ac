-- A trail of a known response key, and one of a new one.
use Rattle.std.proofs.Common.{◌<◌, length, map, option_copied, ap, sym, ◌∙◌, arith}
use Rattle.std.proofs.lemmas.List.{length-map}
use Rattle.std.proofs.lemmas.Map.Text.{btree_map_updates_str}
use Rattle.store_retain.proofs.PutSteps.{place_put, place_within, placed_at, placed_new, put_new_is, put_there}
use Rattle.store_retain.proofs.roads.Gathered.put.Goals as goal
use Rattle.store_retain.specs.RoadView.{place_of, road_of}
use Rattle.store_retain.specs.TrailView.{way_of}

pub put_behind-requires : goal.put_behind-requires
put_behind-requires c =
    let low : c.in-Some.place.now < length (map road_of c.args.self.now.roads.items) = place_within (map road_of c.args.self.now.roads.items) c.args.trail.now.response c.in-Some.place.now (placed_at (map road_of c.args.self.now.roads.items) c.as_str-response.result.now c.args.trail.now.response _ _ c.as_str-response.ensures (c.requires c.as_str-response.result.now)
    (sym c.get.ensures.value ∙ ap option_copied c.in-Some.is)) in
    omega (arith, low, length-map c.args.self.now.roads.items road_of)

pub returns-in_ok-put_behind-in-Some-clause-put : goal.returns-in_ok-put_behind-in-Some-clause-put
returns-in_ok-put_behind-in-Some-clause-put c =
    c.in_ok-put_behind-in-Some.ensures ∙ sym (put_there (map road_of c.args.self.now.roads.items) (way_of c.args.trail.now) c.in-Some.place.now (placed_at (map road_of c.args.self.now.roads.items) c.as_str-response.result.now c.args.trail.now.response _ _ c.as_str-response.ensures (c.requires c.as_str-response.result.now)
    (sym c.get.ensures.value ∙ ap option_copied c.in-Some.is)))

pub returns-in_ok-put_behind-in-Some-clause-placed : goal.returns-in_ok-put_behind-in-Some-clause-placed
returns-in_ok-put_behind-in-Some-clause-placed c = λ n.
    c.requires n
    ∙ sym (place_put c.in-Some.place.now (map road_of c.args.self.now.roads.items) (way_of c.args.trail.now) n)
    ∙ sym (ap (λ hs. place_of hs n) c.in_ok-put_behind-in-Some.ensures)

pub returns-in_ok-push-in-None-clause-put : goal.returns-in_ok-push-in-None-clause-put
returns-in_ok-push-in-None-clause-put c =
    put_new_is c.args.self.now.roads.items c.push.new.self.items c.in_ok-road-in-None.road (way_of c.args.trail.now) c.in_ok-road-in-None.ensures c.in_ok-push-in-None.ensures.items (placed_at (map road_of c.args.self.now.roads.items) c.as_str-response.result.now c.args.trail.now.response _ _ c.as_str-response.ensures (c.requires c.as_str-response.result.now)
    (sym c.get.ensures.value ∙ ap option_copied c.in-None.is))

pub returns-in_ok-push-in-None-clause-placed : goal.returns-in_ok-push-in-None-clause-placed
returns-in_ok-push-in-None-clause-placed c = λ n.
    placed_new c.args.self.now.roads.items c.push.new.self.items c.in_ok-road-in-None.road (way_of c.args.trail.now) c.in_ok-road-in-None.ensures c.in_ok-push-in-None.ensures.items (placed_at (map road_of c.args.self.now.roads.items) c.as_str-response.result.now c.args.trail.now.response _ _ c.as_str-response.ensures (c.requires c.as_str-response.result.now)
    (sym c.get.ensures.value ∙ ap option_copied c.in-None.is))
    c.as_str-response.result.now n c.len.result _ _ c.as_str-response.ensures (grind (arith, c.len.ensures)) (c.requires n)
    (btree_map_updates_str c.as_str-response.result.now c.args.self.now.places c.insert.new.self _ c.in_ok-insert-in-None.ensures.updates n)
