-- The value so far, and what the arguments that are left make of it.
use Rattle.std.proofs.Common.{◌≡◌, map, drop}
use Rattle.plan_ir.specs.gql_ast.Value.{null}
use Rattle.plan_ir.specs.gql_ast.ValueView.{argument_of, value_of}
use Rattle.plan_build.specs.Conditions.{last_if}
use Rattle.plan_build.proofs.conditions.last_if.Given as goal

abbrev pub invariant-arguments : goal.invariant-arguments
invariant-arguments l = last_if (value_of l.value) (map argument_of (drop l.argument-index l.argument-items)) ≡ last_if null l.arguments
