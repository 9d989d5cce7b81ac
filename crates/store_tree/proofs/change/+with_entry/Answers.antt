use Rattle.std.proofs.Common.{◌≡◌, ℕ, List, ◌++◌, ◌∷◌, T, ◌∙◌, subst, arith}
use Rattle.std.specs.Prelude.{IfOk}
use Rattle.std.specs.FinMap.{put, is_sorted}
use Rattle.std.specs.declared.cmp.Ordering.TheVariants.{Less, Equal, Greater}
use Rattle.store_tree.specs.KeyOrder.{key_cmp}
use Rattle.store_tree.specs.Shape.{IsBalanced}
use Rattle.store_tree.proofs.Opened.{pairs-opened, leaf-opened}
use Rattle.store_tree.proofs.Sides as sides
use Rattle.store_tree.proofs.change.+with_entry.Goals as goal

pub with_in_leaf-requires-clause-in_order : goal.with_in_leaf-requires-clause-in_order
with_in_leaf-requires-clause-in_order g t c =
    let is = leaf-opened _ _ c.branch.view_is _ c.in-Leaf.is in
    let s : T (is_sorted key_cmp c.args.branch.now.pairs) = assumption c.requires in
    rw c.deref.ensures (subst (λ ps. T (is_sorted key_cmp ps)) is s)

pub with_in_leaf-requires-clause-few : goal.with_in_leaf-requires-clause-few
with_in_leaf-requires-clause-few g t c = rw c.deref.ensures (subst IsBalanced c.in-Leaf.is c.branch.invariant)

pub with_entry-requires : goal.with_entry-requires
with_entry-requires g t c κs within =
    let is = pairs-opened _ _ c.branch.view_is _ c.in-Fork.is in
    let s : T (is_sorted key_cmp c.args.branch.now.pairs) = assumption c.requires in
    rw c.deref-in-Less.ensures (omega (arith, (sides.shorter c.args.branch.now.pairs c.in-Fork.node.value is).0), (within.0, (within.1, sides.left_sorted c.args.branch.now.pairs c.in-Fork.node.value is s)))

pub with_entry-requires-in-Greater : goal.with_entry-requires-in-Greater
with_entry-requires-in-Greater g t c κs within =
    let is = pairs-opened _ _ c.branch.view_is _ c.in-Fork.is in
    let s : T (is_sorted key_cmp c.args.branch.now.pairs) = assumption c.requires in
    rw c.deref-in-Greater.ensures (omega (arith, (sides.shorter c.args.branch.now.pairs c.in-Fork.node.value is).1), (within.0, (within.1, sides.right_sorted c.args.branch.now.pairs c.in-Fork.node.value is s)))

pub returns-in_ok-share-in-Less-2-clause-pairs : goal.returns-in_ok-share-in-Less-2-clause-pairs
returns-in_ok-share-in-Less-2-clause-pairs g t c =
    let n = c.in-Fork.node.value in
    let e = c.args.item in
    let is = pairs-opened _ _ c.branch.view_is _ c.in-Fork.is in
    let s : T (is_sorted key_cmp c.args.branch.now.pairs) = assumption c.requires in
    let p : key_cmp e.0 n.item.0 ≡ Less = cc in
    let low : c.in_ok-left-in-Less.left.pairs ≡ put key_cmp e.0 e.1 n.left.pairs = cc (c.in_ok-left-in-Less.ensures.pairs) in
    let middle : c.in_ok-share-in-Less.field-0 ≡ n.item = cc (c.in_ok-share-in-Less.ensures) in
    let high : c.in_ok-share-in-Less-2.field-0 ≡ n.right = cc (c.in_ok-share-in-Less-2.ensures) in
    subst (λ ps. IfOk c.balance.result (λ b. b.pairs ≡ ps))
    ((λ i. low i ++ middle i ∷ (high i).pairs) ∙ sides.put-less c.args.branch.now.pairs n is s e.0 e.1 p) c.balance.ensures.pairs

pub returns-in_ok-share-in-Equal-2-clause-pairs : goal.returns-in_ok-share-in-Equal-2-clause-pairs
returns-in_ok-share-in-Equal-2-clause-pairs g t c =
    let n = c.in-Fork.node.value in
    let e = c.args.item in
    let is = pairs-opened _ _ c.branch.view_is _ c.in-Fork.is in
    let s : T (is_sorted key_cmp c.args.branch.now.pairs) = assumption c.requires in
    let p : key_cmp e.0 n.item.0 ≡ Equal = cc in
    let low : c.in_ok-share-in-Equal.field-0 ≡ n.left = cc (c.in_ok-share-in-Equal.ensures) in
    let high : c.in_ok-share-in-Equal-2.field-0 ≡ n.right = cc (c.in_ok-share-in-Equal-2.ensures) in
    let middle = c.item.view_is in
    subst (λ ps. IfOk c.fork-in-Equal.result (λ b. b.pairs ≡ ps))
    ((λ i. (low i).pairs ++ middle i ∷ (high i).pairs) ∙ sides.whole n.left.pairs n.right.pairs e _ (sides.put-equal c.args.branch.now.pairs n is s e.0 e.1 p)) c.fork-in-Equal.ensures.pairs

pub returns-in_ok-share-in-Greater-2-clause-pairs : goal.returns-in_ok-share-in-Greater-2-clause-pairs
returns-in_ok-share-in-Greater-2-clause-pairs g t c =
    let n = c.in-Fork.node.value in
    let e = c.args.item in
    let is = pairs-opened _ _ c.branch.view_is _ c.in-Fork.is in
    let s : T (is_sorted key_cmp c.args.branch.now.pairs) = assumption c.requires in
    let p : key_cmp e.0 n.item.0 ≡ Greater = cc in
    let low : c.in_ok-share-in-Greater.field-0 ≡ n.left = cc (c.in_ok-share-in-Greater.ensures) in
    let middle : c.in_ok-share-in-Greater-2.field-0 ≡ n.item = cc (c.in_ok-share-in-Greater-2.ensures) in
    let high : c.in_ok-right-in-Greater.right.pairs ≡ put key_cmp e.0 e.1 n.right.pairs = cc (c.in_ok-right-in-Greater.ensures.pairs) in
    subst (λ ps. IfOk c.balance-in-Greater-2.result (λ b. b.pairs ≡ ps))
    ((λ i. (low i).pairs ++ middle i ∷ high i) ∙ sides.put-greater c.args.branch.now.pairs n is s e.0 e.1 p) c.balance-in-Greater-2.ensures.pairs
