-- That what is held are operations of the project, with their plans.
use Rattle.std.specs.Prelude.{◌≡◌, true, List, [], ◌∷◌, Some, is_some}
use Rattle.std.specs.List.{AllByRecursion}
use Rattle.plan_ir.specs.gql_ast.declared.document.Document.{Document}
use Rattle.plan_ir.specs.gql_ast.declared.place.Placed.{Placed}
use Rattle.plan_ir.specs.gql_plain.Order.{has_text}
use Rattle.plan_ir.specs.Projects.{project}
use Rattle.plan_ir.specs.Expansion.{name_or}
use Rattle.plan_ir.specs.NormalReach.{plan_reaches}
use Rattle.plan_ir.specs.ReaderMeaning.{plan_reads}
use Rattle.plan_project.specs.Lookups.{operation_in}
use Rattle.relay_machine.specs.relay_model.Readings.{no_place, operation_reads}
use Rattle.relay_machine.specs.relay_model.Reaches.{operation_reaches}
use Rattle.plan_ir.specs.schema_tables.Types.{Text, Defs, root}
use Rattle.plan_ir.specs.schema_types.Environments.{Values}
use Rattle.plan_ir.specs.schema_types.Sites.{OperationAt}
use Rattle.plan_ir.specs.store_model.Walks.{Slots, type_of_record}
use Rattle.store_retain.specs.declared.held.Held.{Held}

-- the documents have the operation; its plan reaches what the operation does along the documents, and the plan by which it is read shows what
-- that does
pub record HoldsPlan (defs : Defs) (ps : List (Placed Document)) (h : Held) : Type 0 where
  pub there : is_some (operation_in defs ps h.name) ≡ true
  pub reaches : (o : OperationAt) → operation_in defs ps h.name ≡ Some o → (own : Values) (m : Slots) (id j : Text)
      → has_text (plan_reaches (type_of_record (name_or (root defs o.kind))) m own h.normal.value.steps (name_or (root defs o.kind) ∷ []) id) j
      ≡ has_text (operation_reaches (project defs ps) no_place o own m id) j
  pub reads : (o : OperationAt) → operation_in defs ps h.name ≡ Some o → (own : Values) (owner : Text) (m : Slots) (id : Text)
      → plan_reads (type_of_record (name_or (root defs o.kind))) owner m own h.reader.value.steps (name_or (root defs o.kind) ∷ []) id
      ≡ operation_reads (project defs ps) o own owner m id

abbrev pub HoldPlans : Defs → List (Placed Document) → List Held → Type 0
HoldPlans defs ps hs = AllByRecursion (HoldsPlan defs ps) hs
