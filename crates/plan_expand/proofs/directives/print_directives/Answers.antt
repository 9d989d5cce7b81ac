-- One more directive, and all of them.
use Rattle.std.proofs.Common.{◌∷◌, [], refl, arith}
use Rattle.plan_ir.specs.Expansion.{directives_such}
use Rattle.plan_expand.specs.Printing.{shows}
use Rattle.plan_expand.specs.ScopeView.{scope_of}
use Rattle.plan_expand.proofs.DirectiveSteps.{such_before}
use Rattle.plan_expand.proofs.Lists.{list_end, list_next}
use Rattle.plan_expand.proofs.directives.print_directives.Goals as goal

pub directives-preserved : goal.directives-preserved
directives-preserved c =
    list_next (directives_such (shows c.args.is_spread) (scope_of c.args.scope.now)) (λ d. directives_such (shows c.args.is_spread) (scope_of c.args.scope.now) (d ∷ []))
    (such_before (shows c.args.is_spread) (scope_of c.args.scope.now)) c.as_slice-directive-items.result.now c.directives.directive-index c.directive-item.result _ _ _ (omega arith) c.directive-item.is
    c.in_ok-put_directive.ensures c.directives.invariant

pub returns : goal.returns
returns c =
    list_end (directives_such (shows c.args.is_spread) (scope_of c.args.scope.now)) refl c.as_slice-directive-items.result.now c.directives.directive-index _ _ (omega arith) c.directives.invariant
