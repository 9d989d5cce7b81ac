use Rattle.std.proofs.Common.{◌≡◌, ◌++◌, take}
use Rattle.store_tree.specs.Contents.{keys_of}
use Rattle.store_tree.proofs.leaf.Leaf.add_keys.Given as goal

abbrev pub invariant-loop-item : goal.invariant-loop-item
invariant-loop-item g l = l.keys.items ≡ l.fn.keys.items ++ keys_of (take l.item-index l.self)
