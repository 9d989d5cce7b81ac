-- Each comparison is one of texts.
use denote.Ref.{Bor}
use Rattle.std.proofs.Common.{◌≡◌, nat_cmp, rules, ap}
use Rattle.std.proofs.lemmas.Cmp.{nat_list_cmp_total}
use Rattle.std.proofs.lemmas.Fn.{always_returns_same}
use Rattle.std.proofs.lemmas.List.Sorted.{ranks_by}
use Rattle.std.specs.Cmp.Lexicographic.{slice_cmp}
use Rattle.std.specs.Ordering.{is_lt}
use Rattle.plan_ir.specs.store_record.Keys.{Text}
use Rattle.plan_order.proofs.keys.in_order.Goals as goal

pub returns-clause-order : goal.returns-clause-order
returns-clause-order c =
    c.in_ok-sort_by.ensures.sorted (λ x y. is_lt (slice_cmp nat_cmp x.now y.now)) (ranks_by nat_list_cmp_total (λ (t : Bor Text). t.now))
    (always_returns_same _ _ _ (λ a r k called. (let e : r ≡ slice_cmp nat_cmp a.0.now.now a.1.0.now.now = search rules in ap is_lt e, search rules)))
