-- The last sort is by ids.
use Rattle.std.proofs.Common.{◌≡◌, rules, ap}
use Rattle.std.proofs.lemmas.Fn.{always_returns_same}
use Rattle.std.proofs.lemmas.List.MinMax.{ranks_by}
use Rattle.std.proofs.lemmas.List.Sorted.{IsPermutation-trans}
use Rattle.std.specs.Ordering.{is_lt}
use Rattle.store_model.specs.FactOrder.{text_cmp}
use Rattle.store_model.specs.declared.facts.FactRow.{FactRow}
use Rattle.store_report.proofs.RowMembers.{rows_total}
use Rattle.store_report.proofs.joining.in_order.Goals as goal

pub returns-clause-same : goal.returns-clause-same
returns-clause-same c = IsPermutation-trans c.args.rows.items c.in_ok-rows.rows.items c.sort_by.new.self.items c.in_ok-rows.ensures c.sort_by.ensures.permutation

pub returns-clause-order : goal.returns-clause-order
returns-clause-order c =
    c.in_ok-sort_by.ensures.sorted (λ x y. is_lt (text_cmp x.id y.id)) (ranks_by rows_total (λ (r : FactRow). r))
    (always_returns_same _ _ _ (λ a r k called. (let e : r ≡ text_cmp a.0.now.id a.1.0.now.id = search rules in ap is_lt e, search rules)))
