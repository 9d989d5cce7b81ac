-- What is put and what is left are the whole.
use Rattle.std.proofs.Common.{◌≡◌, drop}
use Rattle.store_retain.proofs.roads.roads_from.Given as goal
use Rattle.store_retain.specs.RoadView.{roads_in, table_of, IsPlaced}
use Rattle.store_retain.specs.Ways.{roads_of, roads_onto, ways_of}

abbrev pub invariant-numbers : goal.invariant-numbers
invariant-numbers l = record {
  put : roads_onto (roads_in l.gathered) (ways_of (table_of l.parts) l.object (drop l.number-index l.numbers)) ≡ roads_of (ways_of (table_of l.parts) l.object l.numbers);
  placed : IsPlaced l.gathered;
}
