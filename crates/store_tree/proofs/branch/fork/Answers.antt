use Rattle.std.proofs.Common.{◌≡◌, max, length-append, arith}
use Rattle.store_tree.proofs.Low.{least-fork}
use Rattle.store_tree.proofs.branch.fork.Goals as goal

pub invariant_of-result : goal.invariant_of-result
invariant_of-result g c =
    let made = c.in_ok-new.ensures.ok in
    let high : c.max-height.result ≡ max c.args.left.height c.args.right.height = omega arith in
    let enough = least-fork c.args.left.height c.args.right.height _ _ c.requires (rw c.height.ensures.height at c.height.ensures.enough) (rw c.height-2.ensures.height at c.height-2.ensures.enough) in
    rw made (c.requires, omega arith, omega (arith, length-append c.args.left.pairs), rw high (omega arith), omega arith)
