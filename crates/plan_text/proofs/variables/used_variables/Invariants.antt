-- What is collected and what is left are the whole.
use Rattle.std.proofs.Common.{◌≡◌, ◌++◌, map, drop}
use Rattle.std.specs.List.{filter}
use Rattle.plan_ir.specs.gql_ast.declared.variable.VariableDef.{VariableDef}
use Rattle.plan_text.proofs.variables.used_variables.Given as goal
use Rattle.plan_text.specs.UsedNames.{has_name}

abbrev pub invariant-items : goal.invariant-items
invariant-items l =
    map (λ v. v.now) l.used.items ++ filter (λ (v : VariableDef). has_name l.names v.name) (drop l.variable-index l.variable-items)
    ≡ filter (λ (v : VariableDef). has_name l.names v.name) l.variable-items
