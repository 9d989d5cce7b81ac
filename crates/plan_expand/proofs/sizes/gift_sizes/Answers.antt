-- One more directive, and all of them.
use Rattle.std.proofs.Common.{option_map, refl, ap, ◌∙◌, arith}
use Rattle.std.specs.Option.{option_or}
use Rattle.plan_ir.specs.gql_graph.Rules.{each}
use Rattle.plan_ir.specs.relay_marks.Connections.{value_of_name}
use Rattle.plan_ir.specs.Substitution.{arguments_in}
use Rattle.plan_expand.specs.Sizes.{size_in}
use Rattle.plan_expand.specs.SizesView.{sizes_of}
use Rattle.plan_expand.proofs.Tables.{or_end, or_next, sized_directive_before}
use Rattle.plan_expand.proofs.sizes.gift_sizes.Goals as goal

pub directives-init : goal.directives-init
directives-init c = λ n.
    ap (λ v. option_or v (option_map (size_in (sizes_of c.args.scope.now)) (value_of_name (each arguments_in c.as_slice-directive-items.result.now) n))) (c.new-given.ensures n)
    ∙ ap (λ ds. option_map (size_in (sizes_of c.args.scope.now)) (value_of_name (each arguments_in ds) n)) c.as_slice-directive-items.ensures

pub directives-preserved : goal.directives-preserved
directives-preserved c = λ n.
    or_next (λ ds. option_map (size_in (sizes_of c.args.scope.now)) (value_of_name (each arguments_in ds) n)) (λ d. option_map (size_in (sizes_of c.args.scope.now)) (value_of_name (arguments_in d) n))
    (sized_directive_before n (size_in (sizes_of c.args.scope.now))) c.as_slice-directive-items.result.now c.directives.directive-index c.directive-item.result _ _ _ (omega arith) c.directive-item.is
    (c.in_ok-put_directive.ensures n) (c.directives.invariant n)

pub returns : goal.returns
returns c = λ n.
    or_end (λ ds. option_map (size_in (sizes_of c.args.scope.now)) (value_of_name (each arguments_in ds) n)) refl c.as_slice-directive-items.result.now c.directives.directive-index _ _ (omega arith) (c.directives.invariant n)
