use Rattle.std.proofs.Common.{◌≡◌, take, ltb}
use Rattle.std.specs.Prelude.{count_by}
use Rattle.store_tree.specs.KeyOrder.{digest_of}
use Rattle.store_tree.proofs.leaf.Leaf.lower.Given as goal

abbrev pub invariant-loop-item : goal.invariant-loop-item
invariant-loop-item g l = l.count ≡ count_by (λ pair. ltb (digest_of pair.0) l.digest) (take l.item-index l.self)
