use Rattle.std.proofs.Common.{◌≡◌, ◌+◌, ◌≤◌, max, length, length-append, refl, arith}
use Rattle.store_tree.specs.Heights.{least, DifferByAtMost}
use Rattle.store_tree.proofs.Low.{least-fork}
use Rattle.store_tree.proofs.in_place.settle.Goals as goal

pub returns-then-right-left-clause-made : goal.returns-then-right-left-clause-made
returns-then-right-left-clause-made g c =
    let n = c.args.place.now in
    let differ : DifferByAtMost 1 n.left.height n.right.height = (omega arith, omega arith) in
    let high : c.max.result + 1 ≡ max n.left.height n.right.height + 1 = omega arith in
    let both = least-fork n.left.height n.right.height _ _ differ (rw c.height-left.ensures.height at c.height-left.ensures.enough) (rw c.height-right.ensures.height at c.height-right.ensures.enough) in
    let enough : least (max n.left.height n.right.height + 1) ≤ n.count = omega (arith, both, c.requires.count, length-append n.left.pairs) in
    ((differ, high, c.requires.count, rw high enough, omega arith), refl, (omega arith, omega arith, λ _. high))
