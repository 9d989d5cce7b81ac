-- A stable sort, of which the first of each key is kept.
use Rattle.std.proofs.Common.{◌≡◌, rules, ap, sym, subst, ◌∙◌}
use Rattle.std.proofs.lemmas.Fn.{always_returns_same, dedup_same}
use Rattle.std.proofs.lemmas.List.MinMax.{ranks_by}
use Rattle.std.specs.List.{dedup}
use Rattle.std.specs.List.Sorted.{IsSorted, IsStable}
use Rattle.std.specs.Map.{keys_of}
use Rattle.std.specs.Ordering.{is_lt}
use Rattle.plan_ir.specs.gql_plain.Order.{AreInOrder}
use Rattle.plan_ir.specs.gql_plain.Shown.{shown_members}
use Rattle.store_read.proofs.MemberSteps.{Member, by_key, is_same_key, keys_total, keys_rise, sorted_is_put}
use Rattle.store_read.proofs.members.first_of_each.Goals as goal
use Rattle.plan_ir.proofs.store_model_laws.InOrder.{dedup_rises, dedup_is_order}

pub invariant_of-result : goal.invariant_of-result
invariant_of-result c =
    let sorted = c.sort_by.new.self.items in
    let kept = c.dedup_by.new.self.items in
    let up : IsSorted by_key sorted
    = c.in_ok-sort_by.ensures.sorted (λ x y. is_lt (by_key x y)) (ranks_by keys_total (λ (p : Member). p))
    (always_returns_same _ _ _ (λ a r k called. (let e : r ≡ by_key a.0.now a.1.0.now = search rules in ap is_lt e, search rules))) in
    let firsts : kept ≡ dedup is_same_key sorted = dedup_same _ is_same_key _ (λ x y b k x' y' called. search rules) sorted kept c.dedup_by.ensures.filtered in
    subst (λ ps. AreInOrder (keys_of ps)) (sym firsts) (keys_rise (dedup is_same_key sorted) (dedup_rises by_key keys_total sorted up))

pub returns : goal.returns
returns c =
    let given = c.args.pairs.items in
    let sorted = c.sort_by.new.self.items in
    let kept = c.dedup_by.new.self.items in
    let up : IsSorted by_key sorted
    = c.in_ok-sort_by.ensures.sorted (λ x y. is_lt (by_key x y)) (ranks_by keys_total (λ (p : Member). p))
    (always_returns_same _ _ _ (λ a r k called. (let e : r ≡ by_key a.0.now a.1.0.now = search rules in ap is_lt e, search rules))) in
    let stable : IsStable by_key given sorted
    = c.in_ok-sort_by.ensures.stable (λ x y. is_lt (by_key x y)) (ranks_by keys_total (λ (p : Member). p))
    (always_returns_same _ _ _ (λ a r k called. (let e : r ≡ by_key a.0.now a.1.0.now = search rules in ap is_lt e, search rules))) in
    let firsts : kept ≡ dedup is_same_key sorted = dedup_same _ is_same_key _ (λ x y b k x' y' called. search rules) sorted kept c.dedup_by.ensures.filtered in
    ap shown_members (firsts ∙ dedup_is_order by_key keys_total given sorted up stable) ∙ sorted_is_put given
