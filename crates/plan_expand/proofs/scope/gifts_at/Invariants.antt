-- What is given and what is left are the whole.
use Rattle.std.proofs.Common.{◌≡◌, drop}
use Rattle.std.specs.Option.{option_or}
use Rattle.plan_ir.specs.relay_marks.Connections.{value_of_name}
use Rattle.plan_ir.specs.Substitution.{arguments_at_spread}
use Rattle.plan_ir.specs.schema_tables.Types.{Text}
use Rattle.plan_expand.specs.ScopeView.{find_gift, scope_of}
use Rattle.plan_expand.proofs.scope.gifts_at.Given as goal

abbrev pub invariant-directives : goal.invariant-directives
invariant-directives l =
    (n : Text) → option_or (find_gift l.given n) (value_of_name (arguments_at_spread (scope_of l.scope) (drop l.directive-index l.directive-items)) n)
    ≡ value_of_name (arguments_at_spread (scope_of l.scope) l.directives) n
