-- What is printed and what is left are the whole.
use Rattle.std.proofs.Common.{◌≡◌, ◌++◌, map, drop}
use Rattle.doc_sites.specs.SitesView.{directive_of}
use Rattle.plan_ir.specs.Expansion.{printed_directives, directive_trees}
use Rattle.plan_ir.specs.Substitution.{operation_scope}
use Rattle.plan_expand.proofs.directives.print_own.Given as goal

abbrev pub invariant-directives : goal.invariant-directives
invariant-directives l =
    l.printed ++ printed_directives operation_scope (directive_trees (map directive_of (drop l.directive-index l.directives))) ≡ printed_directives operation_scope (directive_trees (map directive_of l.directives))
