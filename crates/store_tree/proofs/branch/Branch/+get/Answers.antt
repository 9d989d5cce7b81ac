use Rattle.std.proofs.Common.{◌≡◌, T, subst, arith}
use Rattle.std.specs.FinMap.{is_sorted}
use Rattle.std.specs.declared.cmp.Ordering.TheVariants.{Less, Equal, Greater}
use Rattle.store_tree.specs.KeyOrder.{digest_of, key_cmp}
use Rattle.store_tree.proofs.Opened.{pairs-opened, leaf-opened}
use Rattle.store_tree.proofs.Sides as sides
use Rattle.store_tree.proofs.branch.Branch.+get.Goals as goal

pub get-requires-clause-in_order : goal.get-requires-clause-in_order
get-requires-clause-in_order g t c =
    let is = leaf-opened _ _ c.self.view_is _ c.in-Leaf.is in
    let s : T (is_sorted key_cmp c.args.self.now.pairs) = assumption c.requires in
    rw c.deref.ensures (subst (λ ps. T (is_sorted key_cmp ps)) is s)

pub get-requires-in-Less : goal.get-requires-in-Less
get-requires-in-Less g t c κs within =
    let is = pairs-opened _ _ c.self.view_is _ c.in-Fork.is in
    let s : T (is_sorted key_cmp c.args.self.now.pairs) = assumption c.requires in
    let d : c.args.digest ≡ digest_of c.args.key.now = assumption c.requires in
    rw c.deref-in-Less.ensures (omega (arith, (sides.shorter c.args.self.now.pairs c.in-Fork.node.value is).0), (within, (d, sides.left_sorted c.args.self.now.pairs c.in-Fork.node.value is s)))

pub get-requires-in-Greater : goal.get-requires-in-Greater
get-requires-in-Greater g t c κs within =
    let is = pairs-opened _ _ c.self.view_is _ c.in-Fork.is in
    let s : T (is_sorted key_cmp c.args.self.now.pairs) = assumption c.requires in
    let d : c.args.digest ≡ digest_of c.args.key.now = assumption c.requires in
    rw c.deref-in-Greater.ensures (omega (arith, (sides.shorter c.args.self.now.pairs c.in-Fork.node.value is).1), (within, (d, sides.right_sorted c.args.self.now.pairs c.in-Fork.node.value is s)))

pub returns-in-Less : goal.returns-in-Less
returns-in-Less g t c =
    let is = pairs-opened _ _ c.self.view_is _ c.in-Fork.is in
    let s : T (is_sorted key_cmp c.args.self.now.pairs) = assumption c.requires in
    let p : key_cmp c.args.key.now c.in-Fork.node.value.item.0 ≡ Less = cc in
    cc (sides.found-less c.args.self.now.pairs c.in-Fork.node.value is s c.args.key.now p)

pub returns-in-Equal : goal.returns-in-Equal
returns-in-Equal g t c =
    let is = pairs-opened _ _ c.self.view_is _ c.in-Fork.is in
    let s : T (is_sorted key_cmp c.args.self.now.pairs) = assumption c.requires in
    let p : key_cmp c.args.key.now c.in-Fork.node.value.item.0 ≡ Equal = cc in
    cc (sides.found-equal c.args.self.now.pairs c.in-Fork.node.value is s c.args.key.now p)

pub returns-in-Greater : goal.returns-in-Greater
returns-in-Greater g t c =
    let is = pairs-opened _ _ c.self.view_is _ c.in-Fork.is in
    let s : T (is_sorted key_cmp c.args.self.now.pairs) = assumption c.requires in
    let p : key_cmp c.args.key.now c.in-Fork.node.value.item.0 ≡ Greater = cc in
    cc (sides.found-greater c.args.self.now.pairs c.in-Fork.node.value is s c.args.key.now p)
