-- One more directive, and all of them.
use Rattle.std.proofs.Common.{refl, ap, ◌∙◌, arith}
use Rattle.std.specs.Option.{option_or}
use Rattle.plan_ir.specs.relay_marks.Connections.{value_of_name}
use Rattle.plan_ir.specs.Substitution.{arguments_at_spread, arguments_in, substitute_in}
use Rattle.plan_expand.specs.ScopeView.{scope_of}
use Rattle.plan_expand.proofs.Tables.{directive_before, or_end, or_next}
use Rattle.plan_expand.proofs.scope.gifts_at.Goals as goal

pub directives-init : goal.directives-init
directives-init c = λ n.
    ap (λ v. option_or v (value_of_name (arguments_at_spread (scope_of c.args.scope.now) c.as_slice-directive-items.result.now) n)) (c.new-given.ensures n)
    ∙ ap (λ ds. value_of_name (arguments_at_spread (scope_of c.args.scope.now) ds) n) c.as_slice-directive-items.ensures

pub directives-preserved : goal.directives-preserved
directives-preserved c = λ n.
    or_next (λ ds. value_of_name (arguments_at_spread (scope_of c.args.scope.now) ds) n) (λ d. value_of_name (substitute_in (scope_of c.args.scope.now) (arguments_in d)) n)
    (directive_before n (scope_of c.args.scope.now)) c.as_slice-directive-items.result.now c.directives.directive-index c.directive-item.result _ _ _ (omega arith) c.directive-item.is
    (c.in_ok-put_directive.ensures n) (c.directives.invariant n)

pub returns : goal.returns
returns c = λ n.
    or_end (λ ds. value_of_name (arguments_at_spread (scope_of c.args.scope.now) ds) n) refl c.as_slice-directive-items.result.now c.directives.directive-index _ _ (omega arith) (c.directives.invariant n)
