-- One more value, and all of them.
use Rattle.std.proofs.Common.{map, refl, ap, ◌∙◌, arith}
use Rattle.plan_ir.specs.gql_ast.Value.{members_of, vals_of}
use Rattle.plan_ir.specs.gql_ast.ValueView.{argument_of, value_of}
use Rattle.plan_expand.specs.Sizes.{beside, items_size, members_size, size_in}
use Rattle.plan_expand.specs.SizesView.{sizes_of}
use Rattle.plan_expand.proofs.SizeLaws.{nothing_then, size_end, size_next}
use Rattle.plan_expand.proofs.values.+size.Goals as goal

pub size_of_items-values-init : goal.size_of_items-values-init
size_of_items-values-init t c = nothing_then _ _ c.nothing-all.ensures

pub size_of_items-values-preserved : goal.size_of_items-values-preserved
size_of_items-values-preserved t c =
    size_next (λ vs. items_size (sizes_of c.args.scope.now) (vals_of (map value_of vs))) (λ v. size_in (sizes_of c.args.scope.now) (value_of v)) (λ v vs. refl)
    c.deref-value-items.result.now c.values.value-index c.value-item.result _ _ _ (omega arith) c.value-item.is
    (c.in_ok-all.ensures ∙ ap (beside c.values.all) c.in_ok-one.ensures) c.values.invariant

pub size_of_items-returns : goal.size_of_items-returns
size_of_items-returns t c =
    size_end (λ vs. items_size (sizes_of c.args.scope.now) (vals_of (map value_of vs))) refl c.deref-value-items.result.now c.values.value-index _ _ (omega arith) c.values.invariant
    ∙ ap (λ vs. items_size (sizes_of c.args.scope.now) (vals_of (map value_of vs))) c.deref-value-items.ensures.value
    ∙ ap (λ vs. items_size (sizes_of c.args.scope.now) (vals_of vs)) c.values-2.view_is

pub size_of_arguments-arguments-init : goal.size_of_arguments-arguments-init
size_of_arguments-arguments-init t c = nothing_then _ _ c.nothing-all.ensures

pub size_of_arguments-arguments-preserved : goal.size_of_arguments-arguments-preserved
size_of_arguments-arguments-preserved t c =
    size_next (λ xs. members_size (sizes_of c.args.scope.now) (members_of (map argument_of xs))) (λ x. size_in (sizes_of c.args.scope.now) (argument_of x).1) (λ x xs. refl)
    c.deref-argument-items.result.now c.arguments.argument-index c.argument-item.result _ _ _ (omega arith) c.argument-item.is
    (c.in_ok-all.ensures ∙ ap (beside c.arguments.all) c.in_ok-one.ensures) c.arguments.invariant

pub size_of_arguments-returns : goal.size_of_arguments-returns
size_of_arguments-returns t c =
    size_end (λ xs. members_size (sizes_of c.args.scope.now) (members_of (map argument_of xs))) refl c.deref-argument-items.result.now c.arguments.argument-index _ _ (omega arith) c.arguments.invariant
    ∙ ap (λ xs. members_size (sizes_of c.args.scope.now) (members_of (map argument_of xs))) c.deref-argument-items.ensures.value
    ∙ ap (λ xs. members_size (sizes_of c.args.scope.now) (members_of xs)) c.arguments-2.view_is
