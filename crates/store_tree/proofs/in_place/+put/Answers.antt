use Rattle.std.proofs.Common.{◌≡◌, ℕ, List, ◌+◌, ◌≤◌, ◌++◌, ◌∷◌, length, length-append, refl, ◌∙◌, arith}
use Rattle.std.proofs.lemmas.Result.{IfOk-weaker}
use Rattle.std.specs.declared.cmp.Ordering.TheVariants.{Less, Equal, Greater}
use Rattle.store_tree.specs.KeyOrder.{key_cmp}
use Rattle.store_tree.specs.Shape.{pairs_of}
use Rattle.store_tree.proofs.Made.{length-put_least, made-again, even-left, even-middle, even-right, grown-left, grown-right, unchanged}
use Rattle.store_tree.proofs.Sides as sides
use Rattle.store_tree.proofs.in_place.+put.Goals as goal

pub put_beside-put_entry-requires : goal.put_beside-put_entry-requires
put_beside-put_entry-requires g t c κs within =
    let n = c.args.place.now in
    (omega (arith, (sides.shorter (pairs_of n) n refl).0), (within.0, (within.1, sides.left_sorted (pairs_of n) n refl c.requires.in_order)))

pub put_beside-settle-requires-clause-even : goal.put_beside-settle-requires-clause-even
put_beside-settle-requires-clause-even g t c = λ same.
    let n = c.args.place.now in
    let e = c.args.item in
    let made = c.in_ok-put_entry-in-Less.ensures.pairs in
    let longer : length n.left.pairs ≤ length c.put_entry.new.branch.pairs = rw made (length-put_least key_cmp e.0 e.1 n.left.pairs) in
    let level = unchanged c.height-high.result c.height-low.result same in
    let counted : n.count ≡ length n.left.pairs + length (n.item ∷ n.right.pairs) = c.requires.even.2 ∙ length-append n.left.pairs (n.item ∷ n.right.pairs) in
    let told = c.in-Some.ensures in
    let sum : c.in-Some.count + length n.left.pairs ≡ n.count + length c.put_entry.new.branch.pairs = omega (arith, told.1, c.count-few.ensures, c.count-many.ensures, counted) in
    even-left n c.put_entry.new.branch c.in-Some.count c.requires.even (omega arith) longer sum (omega (arith, told.0, told.1))

pub put_beside-returns-in-Some-clause-made : goal.put_beside-returns-in-Some-clause-made
put_beside-returns-in-Some-clause-made g t c =
    let n = c.args.place.now in
    let e = c.args.item in
    let p : key_cmp e.0 n.item.0 ≡ Less = cc in
    let grown = c.in_ok-put_entry-in-Less.ensures in
    let pairs = (λ i. grown.pairs i ++ n.item ∷ n.right.pairs) ∙ sides.put-less (pairs_of n) n refl c.requires.in_order e.0 e.1 p in
    IfOk-weaker c.settle.result _ _
    (λ other. made-again _ _ _ _ c.settle.new.place other pairs (λ h. grown-left n.left.height n.right.height n.height _ h c.requires.even.0 c.requires.even.1 grown.height))
    c.settle.ensures.made

pub put_beside-returns-in-Equal-clause-made : goal.put_beside-returns-in-Equal-clause-made
put_beside-returns-in-Equal-clause-made g t c =
    let n = c.args.place.now in
    let e = c.args.item in
    let p : key_cmp e.0 n.item.0 ≡ Equal = cc in
    (even-middle n e c.requires.even, sides.whole n.left.pairs n.right.pairs e _ (sides.put-equal (pairs_of n) n refl c.requires.in_order e.0 e.1 p), (omega arith, omega arith))

pub put_beside-put_entry-requires-in-Greater : goal.put_beside-put_entry-requires-in-Greater
put_beside-put_entry-requires-in-Greater g t c κs within =
    let n = c.args.place.now in
    (omega (arith, (sides.shorter (pairs_of n) n refl).1), (within.0, (within.1, sides.right_sorted (pairs_of n) n refl c.requires.in_order)))

pub put_beside-settle-requires-in-Greater-clause-even : goal.put_beside-settle-requires-in-Greater-clause-even
put_beside-settle-requires-in-Greater-clause-even g t c = λ same.
    let n = c.args.place.now in
    let e = c.args.item in
    let made = c.in_ok-put_entry-in-Greater.ensures.pairs in
    let longer : length n.right.pairs ≤ length c.put_entry-in-Greater.new.branch.pairs = rw made (length-put_least key_cmp e.0 e.1 n.right.pairs) in
    let level = unchanged c.height-high-in-Greater.result c.height-low-in-Greater.result same in
    let counted : n.count ≡ length n.left.pairs + length (n.item ∷ n.right.pairs) = c.requires.even.2 ∙ length-append n.left.pairs (n.item ∷ n.right.pairs) in
    let told = c.in-Some-checked_add.ensures in
    let sum : c.in-Some-checked_add.count + length n.right.pairs ≡ n.count + length c.put_entry-in-Greater.new.branch.pairs = omega (arith, told.1, c.count-few-in-Greater.ensures, c.count-many-in-Greater.ensures, counted) in
    even-right n c.put_entry-in-Greater.new.branch c.in-Some-checked_add.count c.requires.even (omega arith) longer sum (omega (arith, told.0, told.1))

pub put_beside-returns-in-Some-checked_add-clause-made : goal.put_beside-returns-in-Some-checked_add-clause-made
put_beside-returns-in-Some-checked_add-clause-made g t c =
    let n = c.args.place.now in
    let e = c.args.item in
    let p : key_cmp e.0 n.item.0 ≡ Greater = cc in
    let grown = c.in_ok-put_entry-in-Greater.ensures in
    let pairs = (λ i. n.left.pairs ++ n.item ∷ grown.pairs i) ∙ sides.put-greater (pairs_of n) n refl c.requires.in_order e.0 e.1 p in
    IfOk-weaker c.settle-in-Greater.result _ _
    (λ other. made-again _ _ _ _ c.settle-in-Greater.new.place other pairs (λ h. grown-right n.left.height n.right.height n.height _ h c.requires.even.0 c.requires.even.1 grown.height))
    c.settle-in-Greater.ensures.made
