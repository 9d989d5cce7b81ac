-- One more directive, and all of them.
use Rattle.std.proofs.Common.{refl, ap, ◌∙◌, arith}
use Rattle.plan_expand.specs.Measuring.{values_size}
use Rattle.plan_expand.specs.Sizes.{arguments_size, beside, own_sizes}
use Rattle.plan_expand.proofs.SizeLaws.{nothing_then, size_end, size_next}
use Rattle.plan_expand.proofs.operations.size_of_directives.Goals as goal

pub directives-init : goal.directives-init
directives-init c = nothing_then c.nothing-all.result (values_size own_sizes c.as_slice-directive-items.result.now) c.nothing-all.ensures ∙ ap (values_size own_sizes) c.as_slice-directive-items.ensures

pub directives-preserved : goal.directives-preserved
directives-preserved c =
    size_next (values_size own_sizes) (λ d. arguments_size own_sizes d.arguments) (λ d ds. refl)
    c.as_slice-directive-items.result.now c.directives.directive-index c.directive-item.result _ _ _ (omega arith) c.directive-item.is
    (c.in_ok-all.ensures ∙ ap (beside c.directives.all) c.in_ok-one.ensures) c.directives.invariant

pub returns : goal.returns
returns c = size_end (values_size own_sizes) refl c.as_slice-directive-items.result.now c.directives.directive-index _ _ (omega arith) c.directives.invariant
