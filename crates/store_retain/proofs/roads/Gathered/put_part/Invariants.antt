-- What is put and what is left are the whole.
use Rattle.std.proofs.Common.{◌≡◌, map, drop}
use Rattle.store_retain.proofs.roads.Gathered.put_part.Given as goal
use Rattle.store_retain.specs.RoadView.{roads_in, IsPlaced}
use Rattle.store_retain.specs.TrailView.{way_of}
use Rattle.store_retain.specs.Ways.{roads_onto, ways_on}

abbrev pub invariant-trails : goal.invariant-trails
invariant-trails l = record {
  put : roads_onto (roads_in l.self) (ways_on l.object (map way_of (drop l.trail-index l.trails))) ≡ roads_onto (roads_in l.initial.self) (ways_on l.object (map way_of l.trails));
  placed : IsPlaced l.self;
}
