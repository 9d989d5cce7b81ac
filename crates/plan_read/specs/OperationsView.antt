-- The operations that stand ready in the code.
use Rattle.std.specs.BTreeMap.{get_by}
use Rattle.std.specs.Cmp.Lexicographic.{slice_cmp}
use Rattle.std.specs.Ordering.{nat_cmp}
use Rattle.std.specs.Prelude.{◌≡◌, cond, List, Option, Some, None, option_map, bytes_eq}
use Rattle.plan_ir.specs.gql_ast.Sels.{Sels}
use Rattle.plan_ir.specs.gql_ast.declared.document.Kind.{Kind}
use Rattle.plan_ir.specs.Expansion.{operation_named}
use Rattle.plan_read.specs.declared.operations.Operations.{Operations}
use Rattle.plan_read.specs.declared.operations.ReadyOperation as kept
use Rattle.plan_ir.specs.schema_tables.Types.{Text}
use Rattle.plan_ir.specs.schema_trees.Located.{Located}
use Rattle.plan_ir.specs.schema_types.Sites.{OperationAt, DefinitionAt, operation, fragment}

-- an operation, ready to be planned
pub record ReadyOperation : Type 0 where
  pub kind : Kind
  pub selections : Sels

abbrev pub operation_view : kept.ReadyOperation → ReadyOperation
operation_view o = record { kind = o.kind; selections = o.selections.now }

abbrev pub find_operation : Operations → Text → Option ReadyOperation
find_operation operations n = option_map operation_view (get_by (λ k. slice_cmp nat_cmp n k.now) operations.by_name)

abbrev pub ready_named : Text → ReadyOperation → Text → Option ReadyOperation
ready_named m o n = cond (bytes_eq m n) (Some o) None

-- what stands ready of an operation
abbrev pub ready_operation : OperationAt → ReadyOperation
ready_operation o = record { kind = o.kind; selections = o.selections }

-- under its name, where it has one
abbrev pub operation_under : Option Located → ReadyOperation → Text → Option ReadyOperation
operation_under None r n = None
operation_under (Some l) r n = ready_named l.name r n

abbrev pub operation_in : DefinitionAt → Text → Option ReadyOperation
operation_in (operation o) n = operation_under o.name (ready_operation o) n
operation_in (fragment f) n = None

-- these operations are found by their names, and no others
abbrev pub HasOperations : (Text → Option ReadyOperation) → List OperationAt → Type 0
HasOperations find os = (n : Text) → find n ≡ option_map ready_operation (operation_named os n)
