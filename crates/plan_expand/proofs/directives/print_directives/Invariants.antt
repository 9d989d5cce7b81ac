-- What is printed and what is left are the whole.
use Rattle.std.proofs.Common.{◌≡◌, ◌++◌, drop}
use Rattle.plan_ir.specs.Expansion.{directives_such}
use Rattle.plan_expand.specs.Printing.{shows}
use Rattle.plan_expand.specs.ScopeView.{scope_of}
use Rattle.plan_expand.proofs.directives.print_directives.Given as goal

abbrev pub invariant-directives : goal.invariant-directives
invariant-directives l =
    l.printed ++ directives_such (shows l.is_spread) (scope_of l.scope) (drop l.directive-index l.directive-items) ≡ directives_such (shows l.is_spread) (scope_of l.scope) l.directives
