-- What is noted, and what is left, is the whole.
use Rattle.std.proofs.Common.{refl}
use Rattle.plan_ir.specs.gql_ast.declared.directive.Directive.{Directive}
use Rattle.plan_ir.specs.OperationText.{arguments_use, directives_use}
use Rattle.plan_text.proofs.Using.{loop_noted}
use Rattle.plan_text.proofs.usage.note_directives.Goals as goal
use Rattle.plan_text.specs.UsedNames.{has_name}

pub items-preserved : goal.items-preserved
items-preserved c = λ n.
    loop_noted (directives_use n) (λ (d : Directive). arguments_use n d.arguments) (λ d ds. refl)
    c.deref-directive-items.result.now c.items.directive-index c.directive-item.result c.items-test.true c.directive-item.is
    (has_name c.items.names n) (has_name c.note_arguments.new.names n) _ (c.in_ok-note_arguments.ensures n) (c.items.invariant n)
