use Rattle.std.proofs.Common.{◌≡◌, rules, ap}
use Rattle.std.proofs.lemmas.Fn.{always_returns_same}
use Rattle.std.proofs.lemmas.List.MinMax.{ranks_by}
use Rattle.std.specs.Ordering.{is_lt}
use Rattle.store_report.proofs.Orders.{facts_total}
use Rattle.store_report.proofs.order.sorted.Goals as goal
use Rattle.store_report.specs.SaidFacts.{fact_of, place_cmp}

pub returns-clause-order : goal.returns-clause-order
returns-clause-order c =
    c.in_ok-sort_by.ensures.sorted (λ x y. is_lt (place_cmp x y)) (ranks_by facts_total fact_of)
    (always_returns_same _ _ _ (λ a r k called. (let e : r ≡ place_cmp a.0.now a.1.0.now = search rules in ap is_lt e, search rules)))

pub returns-clause-stable : goal.returns-clause-stable
returns-clause-stable c =
    c.in_ok-sort_by.ensures.stable (λ x y. is_lt (place_cmp x y)) (ranks_by facts_total fact_of)
    (always_returns_same _ _ _ (λ a r k called. (let e : r ≡ place_cmp a.0.now a.1.0.now = search rules in ap is_lt e, search rules)))
