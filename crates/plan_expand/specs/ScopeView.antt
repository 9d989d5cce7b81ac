-- What stands in the place of variables by the scopes that the code keeps.
use Rattle.std.specs.BTreeMap.{get_by}
use Rattle.std.specs.Cmp.Lexicographic.{slice_cmp}
use Rattle.std.specs.Ordering.{nat_cmp}
use Rattle.std.specs.Prelude.{Option, Some, None, option_map}
use Rattle.plan_ir.specs.gql_ast.Value.{Val, variable}
use Rattle.plan_ir.specs.gql_ast.ValueView.{value_of}
use Rattle.plan_ir.specs.Substitution.{Scope, mark_local, value_or}
use Rattle.plan_ir.specs.schema_tables.Types.{Text}
use Rattle.plan_expand.specs.LocalsView.{find_default}
use Rattle.plan_expand.specs.declared.scope.Scope as kept
use Rattle.plan_expand.specs.declared.scope.Scope.TheVariants as S
use Rattle.plan_expand.specs.declared.scope.Gifts.{Gifts}

-- the value that is given to the local variable of a name
abbrev pub find_gift : Gifts → Text → Option Val
find_gift given n = option_map value_of (get_by (λ k. slice_cmp nat_cmp n k.now) given.by_name)

abbrev pub gift_or : (given : Option Val) → Text → (local : Option (Option Val)) → Val
gift_or v n None = variable n
gift_or v n (Some d) = value_or v d

abbrev pub scope_of : kept.Scope → Scope
scope_of S.Operation n = variable n
scope_of (S.Own locals) n = mark_local n (find_default locals.now n)
scope_of (S.Spread locals given) n = gift_or (find_gift given n) n (find_default locals.now n)
