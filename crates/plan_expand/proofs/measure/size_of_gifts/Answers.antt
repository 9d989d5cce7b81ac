-- One more directive, and all of them.
use Rattle.std.proofs.Common.{refl, ap, ◌∙◌, arith}
use Rattle.plan_ir.specs.gql_graph.Rules.{each}
use Rattle.plan_ir.specs.Substitution.{arguments_in}
use Rattle.plan_expand.specs.Sizes.{arguments_size, beside}
use Rattle.plan_expand.specs.SizesView.{sizes_of}
use Rattle.plan_expand.proofs.SizeLaws.{nothing_then, size_end, size_next}
use Rattle.plan_expand.proofs.ValueSizes.{arguments_append}
use Rattle.plan_expand.proofs.measure.size_of_gifts.Goals as goal

pub directives-init : goal.directives-init
directives-init c =
    nothing_then c.nothing-all.result (arguments_size (sizes_of c.args.scope.now) (each arguments_in c.as_slice-directive-items.result.now)) c.nothing-all.ensures
    ∙ ap (λ ds. arguments_size (sizes_of c.args.scope.now) (each arguments_in ds)) c.as_slice-directive-items.ensures

pub directives-preserved : goal.directives-preserved
directives-preserved c =
    size_next (λ ds. arguments_size (sizes_of c.args.scope.now) (each arguments_in ds)) (λ d. arguments_size (sizes_of c.args.scope.now) (arguments_in d))
    (λ d ds. arguments_append (sizes_of c.args.scope.now) (arguments_in d) (each arguments_in ds))
    c.as_slice-directive-items.result.now c.directives.directive-index c.directive-item.result _ _ _ (omega arith) c.directive-item.is
    (c.in_ok-all.ensures ∙ ap (beside c.directives.all) c.in_ok-one.ensures) c.directives.invariant

pub returns : goal.returns
returns c =
    size_end (λ ds. arguments_size (sizes_of c.args.scope.now) (each arguments_in ds)) refl c.as_slice-directive-items.result.now c.directives.directive-index _ _ (omega arith) c.directives.invariant
