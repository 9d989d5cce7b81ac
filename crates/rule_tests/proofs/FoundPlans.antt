-- What is found in a project has a plan by which it is read.
use Rattle.std.proofs.Common.{◌≡◌, Bool, true, false, not, List, Option, Some, None, option_copied, option_map, is_some, refl, ap, ◌∙◌}
use denote.Ref.{Bor}
use Rattle.plan_ir.specs.gql_ast.declared.document.Document.{Document}
use Rattle.plan_ir.specs.gql_ast.declared.place.Placed.{Placed}
use Rattle.plan_ir.specs.declared.form.Form.TheVariants as F
use Rattle.plan_ir.specs.schema_tables.Types.{Text, Defs}
use Rattle.plan_ir.specs.schema_types.Sites.{OperationAt}
use Rattle.plan_project.specs.Lookups.{Agree, operation_in}
use Rattle.plan_read.specs.Plans.{reader_in}
use Rattle.plan_read.specs.Steps.{operation_reader}
use Rattle.plan_ir.specs.Projects.{project}

pub is_there : {X Y : Type 0} (P : X → Y → Type 0) (x : Option X) (y : Option (Bor Y)) (none : Bool) → Agree P x (option_copied y) → is_some y ≡ not none → none ≡ false → is_some x ≡ true
is_there P None None none agree is full = is ∙ ap not full
is_there P None (Some y) none agree is full = absurd agree
is_there P (Some x) y none agree is full = refl

pub operation_has_reader : (defs : Defs) (ps : List (Placed Document)) (n : Text) → is_some (operation_in defs ps n) ≡ true → is_some (reader_in defs ps F.Operation n) ≡ true
operation_has_reader defs ps n there = on (operation_in defs ps n) there
  where
    on : (x : Option OperationAt) → is_some x ≡ true → is_some (option_map (operation_reader (project defs ps)) x) ≡ true
    on None h = h
    on (Some o) h = refl
