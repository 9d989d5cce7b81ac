use Rattle.std.proofs.Common.{take}
use Rattle.store_tree.specs.KeyOrder.{key_cmp}
use Rattle.store_tree.specs.Place.{Passes}
use Rattle.store_tree.proofs.leaf.Leaf.place.Given as goal

abbrev pub invariant-loop-at : goal.invariant-loop-at
invariant-loop-at g l = Passes key_cmp l.key (take l.at l.self)
