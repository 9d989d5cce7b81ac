-- What expansion answers.
use Rattle.std.specs.Prelude.{◌≡◌, Bool, false, List, Option, Some, None, option_map, Result}
use Rattle.plan_ir.specs.gql_ast.declared.document.Document.{Document}
use Rattle.plan_ir.specs.gql_ast.declared.place.Placed.{Placed}
use Rattle.plan_ir.specs.Expansion.{Whole, whole}
use Rattle.plan_ir.specs.Projects.{definitions_in, project}
use Rattle.plan_ir.specs.Sizes.{has_too_many_nodes, is_too_deep}
use Rattle.plan_ir.specs.declared.expanded.Expanded.{Expanded}
use Rattle.plan_ir.specs.declared.form.Form.{Form}
use Rattle.plan_ir.specs.schema_tables.Types.{Text, Defs}
use Rattle.plan_expand.specs.Verdicts.{Outcome}
use Rattle.plan_expand.specs.declared.fault.ExpandFault.{ExpandFault}

-- the operation or the fragment of that name
abbrev pub whole_in : Defs → List (Placed Document) → Form → Text → Option Whole
whole_in defs ps form n = whole (project defs ps) (definitions_in defs ps) form n

abbrev pub whole_is : (Whole → Bool) → Option Whole → Bool
whole_is test None = false
whole_is test (Some w) = test w

-- the answer where this is asked for: E1 and E2, in this order
abbrev pub IsAnswer : Option Whole → Result Expanded ExpandFault → Type 0
IsAnswer o r = Outcome (whole_is has_too_many_nodes o) (whole_is is_too_deep o) (λ e. Some e ≡ option_map (λ (w : Whole). w.expanded) o) r
