-- What plans that are read ask of the fragments of a project: the default of each local variable is a constant. So much of V17 they need.
use Rattle.std.specs.Prelude.{◌≡◌, true, List, Option, None, Some}
use Rattle.std.specs.List.{AllByRecursion}
use Rattle.plan_ir.specs.gql_ast.Value.{Val}
use Rattle.plan_ir.specs.Expansion.{Project}
use Rattle.plan_ir.specs.relay_marks.Locals.{Local, locals_of}
use Rattle.plan_ir.specs.schema_tables.Types.{Text}
use Rattle.plan_ir.specs.schema_types.NameRules.{fragment_named}
use Rattle.plan_ir.specs.schema_types.Sites.{FragmentAt}
use Rattle.plan_ir.specs.constant_values.Fittings.{is_constant}

abbrev pub IsConstant : Option Val → Type 0
IsConstant None = Unit {0}
IsConstant (Some x) = is_constant x ≡ true

-- the default of each local variable is a constant
abbrev pub HaveConstants : List Local → Type 0
HaveConstants ls = AllByRecursion (λ l. IsConstant l.default) ls

-- and so of each fragment that may be spread
abbrev pub AreConstant : Project → Type 0
AreConstant p = (n : Text) (f : FragmentAt) → fragment_named p.fragments n ≡ Some f → HaveConstants (locals_of f.directives)
