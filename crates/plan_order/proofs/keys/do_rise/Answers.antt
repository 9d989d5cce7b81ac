-- Each text is looked at beside the next one.
use Rattle.std.proofs.Common.{◌≡◌, nat_cmp, rules}
use Rattle.std.proofs.lemmas.Fn.{always_returns_same}
use Rattle.std.specs.Cmp.Lexicographic.{slice_cmp}
use Rattle.std.specs.Ordering.{is_lt}
use Rattle.plan_order.proofs.NotedSteps.{texts_rise}
use Rattle.plan_order.proofs.keys.do_rise.Goals as goal

pub returns : goal.returns
returns c =
    texts_rise (λ t. t.now) c.args.texts.now c.is_sorted_by.result
    (c.is_sorted_by.ensures.cases (λ x y. is_lt (slice_cmp nat_cmp x.now y.now))
    (always_returns_same _ _ _ (λ a r k called. (let e : r ≡ is_lt (slice_cmp nat_cmp a.0.now.now a.1.0.now.now) = search rules in e, search rules))))
