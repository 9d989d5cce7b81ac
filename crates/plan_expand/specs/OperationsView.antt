-- The operations that stand ready in the code.
use Rattle.std.specs.BTreeMap.{get_by}
use Rattle.std.specs.Cmp.Lexicographic.{slice_cmp}
use Rattle.std.specs.Ordering.{nat_cmp}
use Rattle.std.specs.Prelude.{◌≡◌, ℕ, cond, List, Option, Some, None, option_copied, option_map, bytes_eq}
use Rattle.plan_ir.specs.gql_ast.Sels.{Sels}
use Rattle.plan_ir.specs.gql_ast.declared.directive.Directive.{Directive}
use Rattle.plan_ir.specs.gql_ast.declared.document.Kind.{Kind}
use Rattle.plan_ir.specs.gql_ast.declared.place.FilePlace.{FilePlace}
use Rattle.plan_ir.specs.gql_ast.declared.variable.VariableDef.{VariableDef}
use Rattle.plan_ir.specs.Expansion.{directive_trees, operation_named, printed_directives, variable_trees}
use Rattle.plan_ir.specs.Substitution.{operation_scope}
use Rattle.plan_ir.specs.schema_tables.Types.{Text, Defs, root}
use Rattle.plan_ir.specs.schema_trees.Located.{Located}
use Rattle.plan_ir.specs.schema_types.Sites.{OperationAt, DefinitionAt, operation, fragment}
use Rattle.plan_expand.specs.Places.{site_places_in}
use Rattle.plan_ir.specs.Projects.{Places}
use Rattle.plan_expand.specs.Measuring.{values_size}
use Rattle.plan_expand.specs.Sizes.{own_sizes}
use Rattle.plan_expand.specs.declared.size.Size.{Size}
use Rattle.plan_expand.specs.declared.operations.Operations.{Operations}
use Rattle.plan_expand.specs.declared.operations.ReadyOperation as kept

-- an operation, ready to be expanded
pub record ReadyOperation : Type 0 where
  pub kind : Kind
  pub around : Option Text
  pub variables : List VariableDef
  pub directives : List Directive
  pub size : Size
  pub selections : Sels
  pub places : Places

abbrev pub operation_view : kept.ReadyOperation → ReadyOperation
operation_view o = record {
  kind = o.kind;
  around = option_copied o.root;
  variables = o.variables;
  directives = o.directives;
  size = o.size;
  selections = o.selections.now;
  places = o.places.items;
}

abbrev pub find_operation : Operations → Text → Option ReadyOperation
find_operation operations n = option_map operation_view (get_by (λ k. slice_cmp nat_cmp n k.now) operations.by_name)

abbrev pub ready_named : Text → ReadyOperation → Text → Option ReadyOperation
ready_named m o n = cond (bytes_eq m n) (Some o) None

-- what stands ready of an operation
abbrev pub ready_operation : Defs → (place : ℕ → FilePlace) → OperationAt → ReadyOperation
ready_operation defs place o = record {
  kind = o.kind;
  around = root defs o.kind;
  variables = variable_trees o.variables;
  directives = printed_directives operation_scope (directive_trees o.directives);
  size = values_size own_sizes (printed_directives operation_scope (directive_trees o.directives));
  selections = o.selections;
  places = site_places_in place o.sites;
}

-- under its name, where it has one
abbrev pub operation_under : Option Located → ReadyOperation → Text → Option ReadyOperation
operation_under None r n = None
operation_under (Some l) r n = ready_named l.name r n

abbrev pub operation_in : Defs → (place : ℕ → FilePlace) → DefinitionAt → Text → Option ReadyOperation
operation_in defs place (operation o) n = operation_under o.name (ready_operation defs place o) n
operation_in defs place (fragment f) n = None

-- these operations are found by their names, and no others
abbrev pub HasOperations : Defs → (ℕ → FilePlace) → (Text → Option ReadyOperation) → List OperationAt → Type 0
HasOperations defs place find os = (n : Text) → find n ≡ option_map (ready_operation defs place) (operation_named os n)
