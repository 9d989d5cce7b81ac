-- What is given and what is left are the whole.
use Rattle.std.proofs.Common.{◌≡◌, map, drop}
use Rattle.std.specs.Option.{option_or}
use Rattle.plan_ir.specs.gql_ast.ValueView.{argument_of}
use Rattle.plan_ir.specs.relay_marks.Connections.{value_of_name}
use Rattle.plan_ir.specs.Substitution.{substitute_in}
use Rattle.plan_ir.specs.schema_tables.Types.{Text}
use Rattle.plan_expand.specs.ScopeView.{find_gift, scope_of}
use Rattle.plan_expand.proofs.scope.Gifts.put_arguments.Given as goal

abbrev pub invariant-arguments : goal.invariant-arguments
invariant-arguments l =
    (map argument_of l.argument-items ≡ l.arguments)
    × ((n : Text) → option_or (find_gift l.self n) (value_of_name (substitute_in (scope_of l.scope) (map argument_of (drop l.argument-index l.argument-items))) n)
    ≡ option_or (find_gift l.initial.self n) (value_of_name (substitute_in (scope_of l.scope) l.arguments) n))
