-- The paths of the roads so far.
use Rattle.std.proofs.Common.{map, take}
use Rattle.store_retain.proofs.paths.paths_of.Given as goal
use Rattle.store_retain.specs.PathView.{ArePathsOf}
use Rattle.store_retain.specs.RoadView.{road_of}

abbrev pub invariant-roads : goal.invariant-roads
invariant-roads l = ArePathsOf l.paths.items (map road_of (take l.road-index l.roads))
