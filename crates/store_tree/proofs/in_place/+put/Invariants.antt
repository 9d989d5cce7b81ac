-- Each call is given fewer entries, or hands on those that it was given.
use Rattle.std.proofs.Common.{◌+◌, ◌*◌, length}
use Rattle.store_tree.specs.Shape.{pairs_of}
use Rattle.store_tree.proofs.in_place.+put.Given as goal

abbrev pub decreases-put_entry : goal.decreases-put_entry
decreases-put_entry g l = 3 * length l.branch.now.pairs + 2

abbrev pub decreases-put_in_node : goal.decreases-put_in_node
decreases-put_in_node g l = 3 * length (pairs_of l.node.value) + 1

abbrev pub decreases-put_beside : goal.decreases-put_beside
decreases-put_beside g l = 3 * length (pairs_of l.place.now)
