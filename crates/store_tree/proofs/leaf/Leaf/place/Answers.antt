use Rattle.std.proofs.Common.{◌≡◌, ◌<◌, take, length, get_or, ltb, sym, ap, ◌∙◌, subst, arith}
use Rattle.std.specs.Prelude.{count_by}
use Rattle.std.specs.declared.cmp.Ordering.TheVariants.{Less, Greater}
use Rattle.store_tree.specs.KeyOrder.{digest_of, key_cmp}
use Rattle.store_tree.specs.Place.{Passes}
use Rattle.store_tree.proofs.Lower.{passes-lower}
use Rattle.store_tree.proofs.Places.{precedes-from, passes-to}
use Rattle.store_tree.proofs.leaf.Leaf.place.Goals as goal

pub loop-at-init : goal.loop-at-init
loop-at-init g c =
    let pairs = c.args.self.now in
    let key = c.args.key.now in
    let lower : c.lower-at.result ≡ count_by (λ pair. ltb (digest_of pair.0) (digest_of key)) pairs = c.lower-at.ensures ∙ ap (λ d. count_by (λ pair. ltb (digest_of pair.0) d) pairs) c.requires.digest in
    subst (λ n. Passes key_cmp key (take n pairs)) (sym lower) (passes-lower key pairs c.requires.in_order)

pub returns-in-Less : goal.returns-in-Less
returns-in-Less g c =
    let at = c.loop-at.at in
    let e = c.index.result.now in
    let many = ap length c.self.view_is in
    let within : at < length c.args.self.now = omega arith in
    let read : e ≡ get_or c.args.self.now at e = cc in
    let less : key_cmp c.args.key.now e.0 ≡ Less = cc in
    (omega arith, c.loop-at.invariant, precedes-from c.args.self.now c.args.key.now c.requires.in_order at e within read less)

pub loop-at-preserved : goal.loop-at-preserved
loop-at-preserved g c =
    let at = c.loop-at.at in
    let e = c.index.result.now in
    let many = ap length c.self.view_is in
    let within : at < length c.args.self.now = omega arith in
    let read : e ≡ get_or c.args.self.now at e = cc in
    let greater : key_cmp c.args.key.now e.0 ≡ Greater = cc in
    passes-to c.args.self.now c.args.key.now c.requires.in_order at e within read greater
