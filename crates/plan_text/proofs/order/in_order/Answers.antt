-- A stable sort of the pairs by name is their order.
use Rattle.std.proofs.Common.{map, nat_cmp, rules, ap, ◌∙◌}
use Rattle.std.proofs.lemmas.Fn.{always_returns_same}
use Rattle.std.proofs.lemmas.List.{take_all}
use Rattle.std.specs.Cmp.Lexicographic.{slice_cmp}
use Rattle.std.specs.List.Sorted.{IsSortedBy, IsStableBy}
use Rattle.std.specs.Ordering.{is_lt}
use Rattle.plan_ir.specs.gql_ast.ValueView.{argument_of}
use Rattle.plan_ir.specs.OperationText.{by_name}
use Rattle.plan_text.proofs.Sorting.{sorted_by_name}
use Rattle.plan_text.proofs.order.in_order.Goals as goal
use Rattle.plan_text.specs.Pairs.{pair_of}
use Rattle.plan_text.specs.declared.order.Pair.{Pair}

pub returns : goal.returns
returns c =
    let given = c.items.pairs.items in
    let sorted = c.sort_by_key.new.self.items in
    let stable : IsStableBy (λ (x y : Pair). is_lt (slice_cmp nat_cmp x.name.now y.name.now)) given sorted =
    c.in_ok-sort_by_key.ensures.stable (λ (p : Pair). p.name) (always_returns_same _ _ _ (λ a r k called. (search rules, search rules))) in
    let up : IsSortedBy (λ (x y : Pair). is_lt (slice_cmp nat_cmp x.name.now y.name.now)) sorted =
    c.in_ok-sort_by_key.ensures.sorted (λ (p : Pair). p.name) (always_returns_same _ _ _ (λ a r k called. (search rules, search rules))) in
    sorted_by_name pair_of given sorted stable up
    ∙ ap by_name (c.items.invariant ∙ ap (map argument_of) (take_all c.items.argument-index c.deref-argument-items.result.now c.items-test.false ∙ c.deref-argument-items.ensures.value) ∙ c.arguments.view_is)
