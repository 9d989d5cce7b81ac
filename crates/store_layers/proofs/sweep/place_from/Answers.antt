use Rattle.std.proofs.Common.{◌≡◌, ◌<◌, ◌≤◌, drop, length, subst, ◌∙◌, get_or, arith, rules, Less, Equal, Greater, nat_cmp}
use Rattle.std.specs.Cmp.Lexicographic.{slice_cmp}
use Rattle.store_layers.proofs.Walked.{passed, found_here, none_here, none_past, left_itself}
use Rattle.store_layers.proofs.sweep.place_from.Goals as goal

pub below-preserved : goal.below-preserved
below-preserved c =
    let ids = c.args.ids.now in
    let at = c.below.at in
    let here = c.index-texts-at.result in
    let within : at < length ids = subst (λ xs. at < length xs) c.as_slice-texts.ensures c.below-test.true in
    let is : here ≡ get_or ids at here = subst (λ xs. here ≡ get_or xs at here) c.as_slice-texts.ensures c.index-texts-at.is in
    let less : slice_cmp nat_cmp here c.args.id.now ≡ Less = search rules in
    λ q above. passed ids at here c.args.id.now q within is less above ∙ c.below.invariant q above

pub returns-in-Equal-clause-has : goal.returns-in-Equal-clause-has
returns-in-Equal-clause-has c =
    let ids = c.args.ids.now in
    let at = c.below.at in
    let here = c.index-texts-at.result in
    let within : at < length ids = subst (λ xs. at < length xs) c.as_slice-texts.ensures c.below-test.true in
    let is : here ≡ get_or ids at here = subst (λ xs. here ≡ get_or xs at here) c.as_slice-texts.ensures c.index-texts-at.is in
    let equal : slice_cmp nat_cmp here c.args.id.now ≡ Equal = search rules in
    left_itself (drop c.args.from ids) (drop at ids) ids c.args.id.now _ c.below.invariant c.requires.from (found_here ids at here c.args.id.now within is equal)

pub returns-then-is_rising-clause-has : goal.returns-then-is_rising-clause-has
returns-then-is_rising-clause-has c =
    let ids = c.args.ids.now in
    let at = c.below.at in
    let here = c.index-texts-at.result in
    let within : at < length ids = subst (λ xs. at < length xs) c.as_slice-texts.ensures c.below-test.true in
    let is : here ≡ get_or ids at here = subst (λ xs. here ≡ get_or xs at here) c.as_slice-texts.ensures c.index-texts-at.is in
    let above : slice_cmp nat_cmp here c.args.id.now ≡ Greater = search rules in
    left_itself (drop c.args.from ids) (drop at ids) ids c.args.id.now _ c.below.invariant c.requires.from
    (none_here ids at here c.args.id.now within is above (c.requires.rising (search rules)))

pub returns-clause-has : goal.returns-clause-has
returns-clause-has c =
    let ids = c.args.ids.now in
    let at = c.below.at in
    let past : length ids ≤ at = subst (λ xs. length xs ≤ at) c.as_slice-texts.ensures (omega (arith, c.below-test.false)) in
    left_itself (drop c.args.from ids) (drop at ids) ids c.args.id.now _ c.below.invariant c.requires.from (none_past ids at c.args.id.now past)

pub returns-in-Greater-clause-has : goal.returns-in-Greater-clause-has
returns-in-Greater-clause-has c = search rules
