-- One more directive, and all of them.
use Rattle.std.proofs.Common.{◌∷◌, [], map, refl, arith}
use Rattle.doc_sites.specs.SitesView.{directive_of}
use Rattle.plan_ir.specs.Expansion.{directive_tree, directive_trees, is_printed, printed_directives}
use Rattle.plan_ir.specs.Substitution.{operation_scope}
use Rattle.plan_expand.proofs.DirectiveSteps.{such_before}
use Rattle.plan_expand.proofs.Lists.{list_end, list_next}
use Rattle.plan_expand.proofs.directives.print_own.Goals as goal

pub directives-preserved : goal.directives-preserved
directives-preserved c =
    list_next (λ ds. printed_directives operation_scope (directive_trees (map directive_of ds))) (λ d. printed_directives operation_scope (directive_tree (directive_of d) ∷ []))
    (λ d ds. such_before is_printed operation_scope (directive_tree (directive_of d)) (directive_trees (map directive_of ds))) c.args.directives.now c.directives.directive-index c.directive-item.result _ _ _
    (omega arith) c.directive-item.is c.in_ok-put_own.ensures c.directives.invariant

pub returns : goal.returns
returns c =
    list_end (λ ds. printed_directives operation_scope (directive_trees (map directive_of ds))) refl c.args.directives.now c.directives.directive-index _ _ (omega arith) c.directives.invariant
