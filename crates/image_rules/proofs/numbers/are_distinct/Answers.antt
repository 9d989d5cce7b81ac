use Rattle.std.proofs.Common.{◌≡◌, ◌-◌, drop, get_or, true, sym, ap, subst, ◌∙◌, arith}
use Rattle.image_text.specs.Images.{are_distinct}
use Rattle.image_rules.specs.Numbers.{Knows}
use Rattle.image_rules.proofs.ListLaws.{distinct_before, distinct_less, distinct_more, drop_end, one_back}
use Rattle.image_rules.proofs.numbers.are_distinct.Goals as goal

pub numbers-init : goal.numbers-init
numbers-init c =
    let none = drop_end c.args.numbers.now in
    record {
      known = subst (λ ns. Knows c.new-seen.result.numbers ns) (sym none) c.new-seen.ensures;
      apart = ap are_distinct none;
      within = omega arith;
    }

pub numbers-preserved : goal.numbers-preserved
numbers-preserved c =
    let ns = c.args.numbers.now in
    let at = c.numbers.at in
    let done = drop at ns in
    let back = one_back ns at 0 (omega (arith, c.numbers-test.true)) c.numbers.invariant.within in
    let one = get_or ns (at - 1) 0 in
    record {
      known = subst (λ xs. Knows c.insert.new.self.numbers xs) (sym back) (c.in_ok-is_new.ensures.known done c.numbers.invariant.known);
      apart = ap are_distinct back ∙ distinct_more done one c.in_ok-is_new.is_new (c.in_ok-is_new.ensures.new_number done c.numbers.invariant.known) c.if-not-is_new.false c.numbers.invariant.apart;
      within = omega (arith, c.numbers.invariant.within);
    }

pub returns-then-not-is_new : goal.returns-then-not-is_new
returns-then-not-is_new c =
    let ns = c.args.numbers.now in
    let at = c.numbers.at in
    let done = drop at ns in
    let back = one_back ns at 0 (omega (arith, c.numbers-test.true)) c.numbers.invariant.within in
    let one = get_or ns (at - 1) 0 in
    sym (distinct_before ns (at - 1)
    (ap are_distinct back ∙ distinct_less done one c.in_ok-is_new.is_new (c.in_ok-is_new.ensures.new_number done c.numbers.invariant.known) c.if-not-is_new.true))

pub returns : goal.returns
returns c =
    let none : c.numbers.at ≡ 0 = omega (arith, c.numbers-test.false) in
    sym (subst (λ k. are_distinct (drop k c.args.numbers.now) ≡ true) none c.numbers.invariant.apart)
