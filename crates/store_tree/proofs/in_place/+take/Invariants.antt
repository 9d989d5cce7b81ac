-- Each call is given fewer entries, or hands on those that it was given.
use Rattle.std.proofs.Common.{◌+◌, ◌*◌, length}
use Rattle.store_tree.specs.Shape.{pairs_of}
use Rattle.store_tree.proofs.in_place.+take.Given as goal

abbrev pub decreases-take_entry : goal.decreases-take_entry
decreases-take_entry g l = 3 * length l.branch.now.pairs + 2

abbrev pub decreases-take_from_node : goal.decreases-take_from_node
decreases-take_from_node g l = 3 * length (pairs_of l.node.value) + 1

abbrev pub decreases-take_beside : goal.decreases-take_beside
decreases-take_beside g l = 3 * length (pairs_of l.place.now)
