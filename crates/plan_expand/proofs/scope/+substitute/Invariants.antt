-- What stands before is replaced.
use Rattle.std.proofs.Common.{◌≡◌, map, take}
use Rattle.plan_ir.specs.gql_ast.ValueView.{value_of, argument_of}
use Rattle.plan_ir.specs.Substitution as spec
use Rattle.plan_expand.specs.ScopeView.{scope_of}
use Rattle.plan_expand.proofs.scope.+substitute.Given as goal

abbrev pub invariant-substitute_items-values : goal.invariant-substitute_items-values
invariant-substitute_items-values l = l.items ≡ map (spec.substitute (scope_of l.scope)) (map value_of (take l.value-index l.value-items))

abbrev pub invariant-substitute_in-arguments : goal.invariant-substitute_in-arguments
invariant-substitute_in-arguments l = l.items ≡ spec.substitute_in (scope_of l.scope) (map argument_of (take l.argument-index l.argument-items))
