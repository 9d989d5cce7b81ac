use Rattle.std.proofs.Common.{◌≡◌, ◌+◌, ◌≤◌, max, ◌++◌, ◌∷◌, T, length, refl, ◌∙◌, arith}
use Rattle.std.proofs.lemmas.Result.{IfOk-weaker}
use Rattle.std.specs.FinMap.{is_sorted}
use Rattle.std.specs.declared.cmp.Ordering.TheVariants.{Less, Equal, Greater}
use Rattle.store_tree.specs.KeyOrder.{digest_of, key_cmp}
use Rattle.store_tree.specs.Shape.{pairs_of, IsEven}
use Rattle.store_tree.proofs.Made.{made-again, shrunk-left, shrunk-right}
use Rattle.store_tree.proofs.Sides as sides
use Rattle.store_tree.proofs.in_place.+take.Goals as goal

pub take_beside-take_entry-requires : goal.take_beside-take_entry-requires
take_beside-take_entry-requires g t c κs within =
    let n = c.args.place.now in
    let d : c.args.digest ≡ digest_of c.args.key.now = assumption c.requires in
    let s : T (is_sorted key_cmp (pairs_of n)) = assumption c.requires in
    (omega (arith, (sides.shorter (pairs_of n) n refl).0), (within.0, (within.1, (d, sides.left_sorted (pairs_of n) n refl s))))

pub take_beside-returns-in-Some-clause-made : goal.take_beside-returns-in-Some-clause-made
take_beside-returns-in-Some-clause-made g t c =
    let n = c.args.place.now in
    let k = c.args.key.now in
    let even : IsEven n = assumption c.requires in
    let s : T (is_sorted key_cmp (pairs_of n)) = assumption c.requires in
    let p : key_cmp k n.item.0 ≡ Less = cc in
    let shrunk = c.in_ok-take_entry-in-Less.ensures in
    let pairs = (λ i. shrunk.pairs i ++ n.item ∷ n.right.pairs) ∙ sides.without-less (pairs_of n) n refl s k p in
    IfOk-weaker c.settle.result _ _
    (λ other. made-again _ _ _ _ c.settle.new.place other pairs (λ h. shrunk-left n.left.height n.right.height n.height _ h even.0 even.1 shrunk.height))
    c.settle.ensures.made

pub take_beside-take_entry-requires-in-Greater : goal.take_beside-take_entry-requires-in-Greater
take_beside-take_entry-requires-in-Greater g t c κs within =
    let n = c.args.place.now in
    let d : c.args.digest ≡ digest_of c.args.key.now = assumption c.requires in
    let s : T (is_sorted key_cmp (pairs_of n)) = assumption c.requires in
    (omega (arith, (sides.shorter (pairs_of n) n refl).1), (within.0, (within.1, (d, sides.right_sorted (pairs_of n) n refl s))))

pub take_beside-returns-in-Some-checked_add-clause-made : goal.take_beside-returns-in-Some-checked_add-clause-made
take_beside-returns-in-Some-checked_add-clause-made g t c =
    let n = c.args.place.now in
    let k = c.args.key.now in
    let even : IsEven n = assumption c.requires in
    let s : T (is_sorted key_cmp (pairs_of n)) = assumption c.requires in
    let p : key_cmp k n.item.0 ≡ Greater = cc in
    let shrunk = c.in_ok-take_entry-in-Greater.ensures in
    let pairs = (λ i. n.left.pairs ++ n.item ∷ shrunk.pairs i) ∙ sides.without-greater (pairs_of n) n refl s k p in
    IfOk-weaker c.settle-in-Greater.result _ _
    (λ other. made-again _ _ _ _ c.settle-in-Greater.new.place other pairs (λ h. shrunk-right n.left.height n.right.height n.height _ h even.0 even.1 shrunk.height))
    c.settle-in-Greater.ensures.made

pub take_beside-returns-in_ok-joined-in-Equal-clause-made : goal.take_beside-returns-in_ok-joined-in-Equal-clause-made
take_beside-returns-in_ok-joined-in-Equal-clause-made g t c =
    let n = c.args.place.now in
    let k = c.args.key.now in
    let even : IsEven n = assumption c.requires in
    let s : T (is_sorted key_cmp (pairs_of n)) = assumption c.requires in
    let p : key_cmp k n.item.0 ≡ Equal = cc in
    let joined = c.in_ok-joined-in-Equal.ensures in
    let high : n.height ≡ max n.left.height n.right.height + 1 = even.1 in
    (joined.pairs ∙ sides.without-equal (pairs_of n) n refl s k p, (omega (arith, joined.height, high), omega (arith, joined.height, high)))
