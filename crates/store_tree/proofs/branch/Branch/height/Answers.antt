use Rattle.std.proofs.Common.{◌≤◌, length, subst, arith}
use Rattle.store_tree.specs.Heights.{least}
use Rattle.store_tree.specs.Shape.{IsBalanced}
use Rattle.store_tree.proofs.Low.{least-zero, low, enough}
use Rattle.store_tree.proofs.Opened.{leaf-height}
use Rattle.store_tree.proofs.branch.Branch.height.Goals as goal

pub returns-in-Empty-clause-enough : goal.returns-in-Empty-clause-enough
returns-in-Empty-clause-enough g c = omega (arith, least-zero)

pub returns-in-Leaf-clause-enough : goal.returns-in-Leaf-clause-enough
returns-in-Leaf-clause-enough g c =
    subst (λ h. least h ≤ length c.args.self.now.pairs) (leaf-height _ _ c.self.view_is _ c.in-Leaf.is) (enough _ _ c.self.invariant c.self.view_is)

pub returns-in-Fork-clause-low : goal.returns-in-Fork-clause-low
returns-in-Fork-clause-low g c =
    let balanced = subst IsBalanced c.in-Fork.is c.self.invariant in
    rw c.deref.ensures (low 64 _ _ balanced.3 balanced.4)
