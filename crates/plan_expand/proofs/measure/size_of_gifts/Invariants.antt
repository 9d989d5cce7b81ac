-- What is added up and what is left are the whole.
use Rattle.std.proofs.Common.{◌≡◌, drop}
use Rattle.plan_ir.specs.gql_graph.Rules.{each}
use Rattle.plan_ir.specs.Substitution.{arguments_in}
use Rattle.plan_expand.specs.Sizes.{arguments_size, beside}
use Rattle.plan_expand.specs.SizesView.{sizes_of}
use Rattle.plan_expand.proofs.measure.size_of_gifts.Given as goal

abbrev pub invariant-directives : goal.invariant-directives
invariant-directives l =
    beside l.all (arguments_size (sizes_of l.scope) (each arguments_in (drop l.directive-index l.directive-items))) ≡ arguments_size (sizes_of l.scope) (each arguments_in l.directives)
