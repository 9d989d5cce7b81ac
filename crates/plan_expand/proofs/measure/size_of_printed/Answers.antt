-- One more directive, and all of them.
use Rattle.std.proofs.Common.{refl, ap, ◌∙◌, arith}
use Rattle.plan_expand.specs.Measuring.{directives_size, size_where}
use Rattle.plan_expand.specs.Printing.{shows}
use Rattle.plan_expand.specs.Sizes.{beside}
use Rattle.plan_expand.specs.SizesView.{sizes_of}
use Rattle.plan_expand.proofs.SizeLaws.{nothing_then, size_end, size_next}
use Rattle.plan_expand.proofs.measure.size_of_printed.Goals as goal

pub directives-init : goal.directives-init
directives-init c =
    nothing_then c.nothing-all.result (directives_size (shows c.args.is_spread) (sizes_of c.args.scope.now) c.as_slice-directive-items.result.now) c.nothing-all.ensures
    ∙ ap (directives_size (shows c.args.is_spread) (sizes_of c.args.scope.now)) c.as_slice-directive-items.ensures

pub directives-preserved : goal.directives-preserved
directives-preserved c =
    size_next (directives_size (shows c.args.is_spread) (sizes_of c.args.scope.now)) (size_where (shows c.args.is_spread) (sizes_of c.args.scope.now)) (λ d ds. refl)
    c.as_slice-directive-items.result.now c.directives.directive-index c.directive-item.result _ _ _ (omega arith) c.directive-item.is
    (c.in_ok-all.ensures ∙ ap (beside c.directives.all) c.in_ok-one.ensures) c.directives.invariant

pub returns : goal.returns
returns c =
    size_end (directives_size (shows c.args.is_spread) (sizes_of c.args.scope.now)) refl c.as_slice-directive-items.result.now c.directives.directive-index _ _ (omega arith) c.directives.invariant
