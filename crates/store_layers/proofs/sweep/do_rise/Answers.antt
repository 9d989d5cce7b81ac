-- Each id is looked at beside the next one.
use Rattle.std.proofs.Common.{◌≡◌, nat_cmp, rules, subst, true}
use Rattle.std.proofs.lemmas.Fn.{always_returns_same}
use Rattle.std.specs.Cmp.Lexicographic.{slice_cmp}
use Rattle.std.specs.Ordering.{is_lt}
use Rattle.store_update.proofs.Groups.{strict_where}
use Rattle.store_update.specs.gql_plain.Order.{AreInOrder}
use Rattle.store_layers.proofs.sweep.do_rise.Goals as goal

pub returns : goal.returns
returns c =
    subst (λ ids. c.is_sorted_by.result ≡ true → AreInOrder ids) c.as_slice.ensures
    (strict_where c.as_slice.result.now c.is_sorted_by.result
    (c.is_sorted_by.ensures.cases (λ x y. is_lt (slice_cmp nat_cmp x y))
    (always_returns_same _ _ _ (λ a r k called. (let e : r ≡ is_lt (slice_cmp nat_cmp a.0.now a.1.0.now) = search rules in e, search rules)))))
