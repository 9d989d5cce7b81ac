-- The sort is by keys.
use Rattle.std.proofs.Common.{◌≡◌, rules}
use Rattle.std.proofs.lemmas.Fn.{always_returns_same}
use Rattle.std.specs.Ordering.{is_lt}
use Rattle.store_report.proofs.TornFields.{entries_rank, entry_cmp}
use Rattle.store_report.proofs.row_fields.in_order.Goals as goal

pub returns-clause-order : goal.returns-clause-order
returns-clause-order c =
    c.in_ok-sort_by.ensures.sorted (λ x y. is_lt (entry_cmp x y)) entries_rank
    (always_returns_same _ _ _ (λ a r k called. (let e : is_lt r ≡ is_lt (entry_cmp a.0.now a.1.0.now) = search rules in e, search rules)))
