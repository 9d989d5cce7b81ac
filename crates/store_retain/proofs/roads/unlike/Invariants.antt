-- What is left leads to the same as the trails so far.
use Rattle.std.proofs.Common.{map, take}
use Rattle.store_retain.proofs.roads.unlike.Given as goal
use Rattle.store_retain.specs.Steps.{LeadAlike}
use Rattle.store_retain.specs.TrailView.{way_at}

abbrev pub invariant-trails : goal.invariant-trails
invariant-trails l = LeadAlike (map way_at l.unlike.items) (map way_at (take l.at-index l.trails))
