use Rattle.std.proofs.Common.{◌≡◌, rules, sym, ap, subst, ◌∙◌}
use Rattle.std.proofs.lemmas.Fn.{always_returns_same, dedup_same}
use Rattle.std.proofs.lemmas.List.MinMax.{ranks_by}
use Rattle.std.specs.List.{dedup}
use Rattle.std.specs.List.Sorted.{IsSorted, IsStable}
use Rattle.std.specs.Ordering.{is_lt}
use Rattle.store_model.specs.FactOrder.{handle_cmp, AreHandlesInOrder}
use Rattle.store_model.specs.declared.facts.HandleFact.{HandleFact}
use Rattle.store_model.proofs.InOrder.{dedup_rises, dedup_is_order}
use Rattle.store_report.proofs.Orders.{handles_total}
use Rattle.store_report.proofs.pages.in_order.Goals as goal
use Rattle.store_report.specs.PagePlaces.{is_same_page}

pub invariant_of-result : goal.invariant_of-result
invariant_of-result c =
    let sorted = c.sort_by.new.self.items in
    let kept = c.dedup_by.new.self.items in
    let up : IsSorted handle_cmp sorted
    = c.in_ok-sort_by.ensures.sorted (λ x y. is_lt (handle_cmp x y)) (ranks_by handles_total (λ (h : HandleFact). h))
    (always_returns_same _ _ _ (λ a r k called. (let e : r ≡ handle_cmp a.0.now a.1.0.now = search rules in ap is_lt e, search rules))) in
    let firsts : kept ≡ dedup is_same_page sorted = dedup_same _ is_same_page _ (λ x y b k x' y' called. search rules) sorted kept c.dedup_by.ensures.filtered in
    subst AreHandlesInOrder (sym firsts) (dedup_rises handle_cmp handles_total sorted up)

pub returns : goal.returns
returns c =
    let given = c.args.pages.items in
    let sorted = c.sort_by.new.self.items in
    let kept = c.dedup_by.new.self.items in
    let up : IsSorted handle_cmp sorted
    = c.in_ok-sort_by.ensures.sorted (λ x y. is_lt (handle_cmp x y)) (ranks_by handles_total (λ (h : HandleFact). h))
    (always_returns_same _ _ _ (λ a r k called. (let e : r ≡ handle_cmp a.0.now a.1.0.now = search rules in ap is_lt e, search rules))) in
    let stable : IsStable handle_cmp given sorted
    = c.in_ok-sort_by.ensures.stable (λ x y. is_lt (handle_cmp x y)) (ranks_by handles_total (λ (h : HandleFact). h))
    (always_returns_same _ _ _ (λ a r k called. (let e : r ≡ handle_cmp a.0.now a.1.0.now = search rules in ap is_lt e, search rules))) in
    let firsts : kept ≡ dedup is_same_page sorted = dedup_same _ is_same_page _ (λ x y b k x' y' called. search rules) sorted kept c.dedup_by.ensures.filtered in
    firsts ∙ dedup_is_order handle_cmp handles_total given sorted up stable
