-- Each call is given fewer entries, or hands on those that it was given.
use Rattle.std.proofs.Common.{◌+◌, ◌*◌, length}
use Rattle.store_tree.specs.Shape.{pairs_of}
use Rattle.store_tree.proofs.written.+write.Given as goal

abbrev pub decreases-write_entry : goal.decreases-write_entry
decreases-write_entry g l = 3 * length l.branch.now.pairs + 2

abbrev pub decreases-write_node : goal.decreases-write_node
decreases-write_node g l = 3 * length (pairs_of l.node.value) + 1

abbrev pub decreases-write_beside : goal.decreases-write_beside
decreases-write_beside g l = 3 * length (pairs_of l.place.now)
