-- What is added up and what is left are the whole.
use Rattle.std.proofs.Common.{◌≡◌, drop}
use Rattle.plan_expand.specs.Measuring.{directives_size}
use Rattle.plan_expand.specs.Printing.{shows}
use Rattle.plan_expand.specs.Sizes.{beside}
use Rattle.plan_expand.specs.SizesView.{sizes_of}
use Rattle.plan_expand.proofs.measure.size_of_printed.Given as goal

abbrev pub invariant-directives : goal.invariant-directives
invariant-directives l =
    beside l.all (directives_size (shows l.is_spread) (sizes_of l.scope) (drop l.directive-index l.directive-items)) ≡ directives_size (shows l.is_spread) (sizes_of l.scope) l.directives
