-- What is put and what is left are the whole.
use Rattle.std.proofs.Common.{◌≡◌, ◌++◌, map, drop}
use Rattle.plan_expand.specs.ScopeView.{scope_of}
use Rattle.plan_read.specs.Steps.{pointer_arguments}
use Rattle.plan_ir.specs.relay_marks.View.{local_view}
use Rattle.plan_read.proofs.pointers.pointer_arguments.Given as goal

abbrev pub invariant-variables : goal.invariant-variables
invariant-variables l =
    l.arguments ++ pointer_arguments (scope_of l.scope) l.directives (map local_view (drop l.variable-index l.variable-items))
    ≡ pointer_arguments (scope_of l.scope) l.directives (map local_view l.variables)
