-- One more directive, and all of them.
use Rattle.std.proofs.Common.{map, refl, ap, arith}
use Rattle.std.specs.Option.{option_or}
use Rattle.doc_sites.specs.SitesView.{directive_of}
use Rattle.plan_ir.specs.relay_marks.Locals.{locals_at, locals_of}
use Rattle.plan_ir.specs.Substitution.{default_named}
use Rattle.plan_expand.proofs.Tables.{defining_before, or_end, or_next}
use Rattle.plan_expand.proofs.locals.Locals.of.Goals as goal

pub directives-init : goal.directives-init
directives-init c = λ n. ap (λ d. option_or d (default_named (locals_of (map directive_of c.args.directives.now)) n)) (c.new-locals.ensures n)

pub directives-preserved : goal.directives-preserved
directives-preserved c = λ n.
    or_next (λ ds. default_named (locals_of (map directive_of ds)) n) (λ d. default_named (locals_at (directive_of d)) n) (defining_before n)
    c.args.directives.now c.directives.directive-index c.directive-item.result _ _ _ (omega arith) c.directive-item.is (c.in_ok-put_directive.ensures n) (c.directives.invariant n)

pub returns : goal.returns
returns c = λ n.
    or_end (λ ds. default_named (locals_of (map directive_of ds)) n) refl c.args.directives.now c.directives.directive-index _ _ (omega arith) (c.directives.invariant n)
