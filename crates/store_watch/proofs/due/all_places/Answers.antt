use Rattle.std.proofs.Common.{◌≡◌, ◌<◌, ◌≤◌, length, arith, rules}
use Rattle.store_watch.proofs.Places.{all_step}
use Rattle.store_watch.proofs.due.all_places.Goals as goal

pub places-init : goal.places-init
places-init c = λ n h. absurd (omega (arith, h))

pub places-preserved : goal.places-preserved
places-preserved c = all_step c.places.at c.places.places.items c.push.new.self.items c.in_ok-push.ensures.items c.places.invariant

pub returns : goal.returns
returns c = λ n h.
    let ends : length c.args.rows.now ≤ c.places.at = search rules in
    c.places.invariant n (omega (arith, h, ends))
