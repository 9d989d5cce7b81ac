-- What is asked of the name of a plan.
use Rattle.std.specs.Prelude.{◌≡◌, true, List, IfSome}
use Rattle.plan_ir.specs.gql_ast.declared.document.Document.{Document}
use Rattle.plan_ir.specs.gql_ast.declared.place.Placed.{Placed}
use Rattle.plan_ir.specs.Projects.{definitions_in}
use Rattle.plan_ir.specs.declared.form.Form.{Form}
use Rattle.plan_ir.specs.declared.form.Form.TheVariants as F
use Rattle.plan_ir.specs.schema_tables.Types.{Text, Defs, is_composite}
use Rattle.plan_ir.specs.schema_types.NameRules.{fragment_named, fragments}
use Rattle.plan_ir.specs.schema_types.Sites.{FragmentAt}

abbrev pub IsComposite : Defs → FragmentAt → Type 0
IsComposite defs f = is_composite defs f.on.name ≡ true

-- the type of the fragment of that name is an object, an interface or a union
abbrev pub IsOnComposite : Defs → List (Placed Document) → Form → Text → Type 0
IsOnComposite defs ps F.Operation n = Unit {0}
IsOnComposite defs ps F.Fragment n = IfSome (fragment_named (fragments (definitions_in defs ps)) n) (IsComposite defs)
