-- Each rank is looked at beside the next one.
use Rattle.std.proofs.Common.{◌≡◌, rules, subst}
use Rattle.std.proofs.lemmas.Fn.{always_returns_same}
use Rattle.std.specs.List.{IsAllAdjacentAnswer}
use Rattle.std.specs.Prelude.{nat_lt}
use Rattle.gql_order.proofs.heads.do_rise.Goals as goal

pub returns : goal.returns
returns g c = λ is.
    subst (IsAllAdjacentAnswer (λ x y b. b ≡ nat_lt x.rank y.rank) c.args.ranked.now) is
    (c.is_sorted_by.ensures.cases (λ x y. nat_lt x.rank y.rank)
    (always_returns_same _ _ _ (λ a r k called. (let e : r ≡ nat_lt a.0.now.rank a.1.0.now.rank = search rules in e, search rules))))
