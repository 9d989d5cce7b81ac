-- Each row is looked at beside the next one.
use Rattle.std.proofs.Common.{◌≡◌, rules}
use Rattle.std.proofs.lemmas.Fn.{always_returns_same}
use Rattle.std.specs.Ordering.{is_lt}
use Rattle.store_model.specs.FactOrder.{text_cmp}
use Rattle.store_report.proofs.RowMembers.{rows_total, strict_where}
use Rattle.store_report.proofs.joining.do_rise.Goals as goal

pub returns : goal.returns
returns c =
    strict_where (λ a b. text_cmp a.id b.id) rows_total c.args.rows.now c.is_sorted_by.result
    (c.is_sorted_by.ensures.cases (λ x y. is_lt (text_cmp x.id y.id))
    (always_returns_same _ _ _ (λ a r k called. (let e : r ≡ is_lt (text_cmp a.0.now.id a.1.0.now.id) = search rules in e, search rules))))
