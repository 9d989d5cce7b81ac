-- The numbers so far.
use Rattle.std.proofs.Common.{◌≡◌, map, take}
use Rattle.store_retain.proofs.roads.numbers_below.Given as goal
use Rattle.store_retain.specs.TrailView.{way_at}
use Rattle.store_retain.specs.Ways.{below_all}

abbrev pub invariant-trails : goal.invariant-trails
invariant-trails l = l.numbers.items ≡ below_all (map way_at (take l.trail-index l.trails))
