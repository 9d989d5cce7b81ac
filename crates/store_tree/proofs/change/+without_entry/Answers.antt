use Rattle.std.proofs.Common.{◌≡◌, ◌++◌, ◌∷◌, T, ◌∙◌, subst, arith}
use Rattle.std.specs.Prelude.{IfOk, not}
use Rattle.std.specs.FinMap.{is_sorted}
use Rattle.std.specs.Ordering.{eq_by_cmp}
use Rattle.std.specs.declared.cmp.Ordering.TheVariants.{Less, Equal, Greater}
use Rattle.store_tree.specs.Contents.{without_tied}
use Rattle.store_tree.specs.KeyOrder.{digest_of, key_cmp}
use Rattle.store_tree.specs.Place.{HasUpTo}
use Rattle.store_tree.specs.Shape.{IsBalanced}
use Rattle.store_tree.specs.declared.leaf.TheConstants.{MOST}
use Rattle.store_tree.proofs.Order.{length-where_key}
use Rattle.store_tree.proofs.Opened.{pairs-opened, leaf-opened}
use Rattle.store_tree.proofs.Sides as sides
use Rattle.store_tree.proofs.change.+without_entry.Goals as goal

pub without-requires-clause-in_order : goal.without-requires-clause-in_order
without-requires-clause-in_order g t c =
    let is = leaf-opened _ _ c.branch.view_is _ c.in-Leaf.is in
    let s : T (is_sorted key_cmp c.args.branch.now.pairs) = assumption c.requires in
    rw c.deref.ensures (subst (λ ps. T (is_sorted key_cmp ps)) is s)

pub branch_of-requires : goal.branch_of-requires
branch_of-requires g t c =
    let few : HasUpTo MOST c.in-Leaf.leaf.value = subst IsBalanced c.in-Leaf.is c.branch.invariant in
    let made : c.in_ok-rest-in-Leaf.rest ≡ without_tied key_cmp c.args.key.now c.in-Leaf.leaf.value = cc (c.in_ok-rest-in-Leaf.ensures, c.deref.ensures) in
    rw made (omega (arith, few.1, length-where_key key_cmp (λ other. not (eq_by_cmp key_cmp c.args.key.now other)) c.in-Leaf.leaf.value))

pub without_entry-requires : goal.without_entry-requires
without_entry-requires g t c κs within =
    let is = pairs-opened _ _ c.branch.view_is _ c.in-Fork.is in
    let s : T (is_sorted key_cmp c.args.branch.now.pairs) = assumption c.requires in
    let d : c.args.digest ≡ digest_of c.args.key.now = assumption c.requires in
    rw c.deref-in-Less.ensures (omega (arith, (sides.shorter c.args.branch.now.pairs c.in-Fork.node.value is).0), (within.0, (within.1, (d, sides.left_sorted c.args.branch.now.pairs c.in-Fork.node.value is s))))

pub without_entry-requires-in-Greater : goal.without_entry-requires-in-Greater
without_entry-requires-in-Greater g t c κs within =
    let is = pairs-opened _ _ c.branch.view_is _ c.in-Fork.is in
    let s : T (is_sorted key_cmp c.args.branch.now.pairs) = assumption c.requires in
    let d : c.args.digest ≡ digest_of c.args.key.now = assumption c.requires in
    rw c.deref-in-Greater.ensures (omega (arith, (sides.shorter c.args.branch.now.pairs c.in-Fork.node.value is).1), (within.0, (within.1, (d, sides.right_sorted c.args.branch.now.pairs c.in-Fork.node.value is s))))

pub returns-in_ok-share-in-Less-2-clause-pairs : goal.returns-in_ok-share-in-Less-2-clause-pairs
returns-in_ok-share-in-Less-2-clause-pairs g t c =
    let n = c.in-Fork.node.value in
    let k = c.args.key.now in
    let is = pairs-opened _ _ c.branch.view_is _ c.in-Fork.is in
    let s : T (is_sorted key_cmp c.args.branch.now.pairs) = assumption c.requires in
    let p : key_cmp k n.item.0 ≡ Less = cc in
    let low : c.in_ok-left-in-Less.left.pairs ≡ without_tied key_cmp k n.left.pairs = cc (c.in_ok-left-in-Less.ensures.pairs) in
    let middle : c.in_ok-share-in-Less.field-0 ≡ n.item = cc (c.in_ok-share-in-Less.ensures) in
    let high : c.in_ok-share-in-Less-2.field-0 ≡ n.right = cc (c.in_ok-share-in-Less-2.ensures) in
    subst (λ ps. IfOk c.balance.result (λ b. b.pairs ≡ ps))
    ((λ i. low i ++ middle i ∷ (high i).pairs) ∙ sides.without-less c.args.branch.now.pairs n is s k p) c.balance.ensures.pairs

pub returns-in-Equal-clause-pairs : goal.returns-in-Equal-clause-pairs
returns-in-Equal-clause-pairs g t c =
    let n = c.in-Fork.node.value in
    let k = c.args.key.now in
    let is = pairs-opened _ _ c.branch.view_is _ c.in-Fork.is in
    let s : T (is_sorted key_cmp c.args.branch.now.pairs) = assumption c.requires in
    let p : key_cmp k n.item.0 ≡ Equal = cc in
    let low : c.deref-in-Equal.result.now.left ≡ n.left = cc in
    let high : c.deref-in-Equal-2.result.now.right ≡ n.right = cc in
    subst (λ ps. IfOk c.join.result (λ b. b.pairs ≡ ps))
    ((λ i. (low i).pairs ++ (high i).pairs) ∙ sides.without-equal c.args.branch.now.pairs n is s k p) c.join.ensures.pairs

pub returns-in_ok-share-in-Greater-2-clause-pairs : goal.returns-in_ok-share-in-Greater-2-clause-pairs
returns-in_ok-share-in-Greater-2-clause-pairs g t c =
    let n = c.in-Fork.node.value in
    let k = c.args.key.now in
    let is = pairs-opened _ _ c.branch.view_is _ c.in-Fork.is in
    let s : T (is_sorted key_cmp c.args.branch.now.pairs) = assumption c.requires in
    let p : key_cmp k n.item.0 ≡ Greater = cc in
    let low : c.in_ok-share-in-Greater.field-0 ≡ n.left = cc (c.in_ok-share-in-Greater.ensures) in
    let middle : c.in_ok-share-in-Greater-2.field-0 ≡ n.item = cc (c.in_ok-share-in-Greater-2.ensures) in
    let high : c.in_ok-right-in-Greater.right.pairs ≡ without_tied key_cmp k n.right.pairs = cc (c.in_ok-right-in-Greater.ensures.pairs) in
    subst (λ ps. IfOk c.balance-in-Greater-2.result (λ b. b.pairs ≡ ps))
    ((λ i. (low i).pairs ++ middle i ∷ high i) ∙ sides.without-greater c.args.branch.now.pairs n is s k p) c.balance-in-Greater-2.ensures.pairs
