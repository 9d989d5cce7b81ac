-- What a project is looked up for: its operations and its fragments, by their names, with their plans.
use Rattle.std.specs.Prelude.{◌≡◌, true, List, [], ◌∷◌, map, Option, Some, None}
use Rattle.plan_ir.specs.gql_ast.declared.document.Document.{Document}
use Rattle.plan_ir.specs.gql_ast.declared.place.Placed.{Placed}
use Rattle.plan_ir.specs.gql_plain.Order.{has_text}
use Rattle.plan_read.specs.plan_build.NormalTypes.{FitsSchema, has_pages, is_typed}
use Rattle.plan_ir.specs.Projects.{definitions_in, project}
use Rattle.plan_ir.specs.Expansion.{name_or, operation_named, variable_trees}
use Rattle.plan_ir.specs.NormalMeaning.{is_formed, plan_says}
use Rattle.plan_ir.specs.NormalReach.{plan_reaches}
use Rattle.plan_ir.specs.ReaderMeaning.{plan_reads}
use Rattle.plan_project.specs.declared.operations.Compiled.{Compiled}
use Rattle.plan_project.specs.declared.operations.CompiledFragment.{CompiledFragment}
use Rattle.plan_read.specs.Laws.{AreLocals}
use Rattle.plan_read.specs.ReaderTypes as reader_types
use Rattle.plan_ir.specs.relay_marks.Locals.{locals_of}
use Rattle.plan_ir.specs.relay_marks.View.{directives_of_all, local_view}
use Rattle.plan_read.specs.relay_model.Reaches.{operation_reaches}
use Rattle.plan_read.specs.relay_model.Readings.{fragment_reads, no_place, operation_reads, with_marked}
use Rattle.plan_read.specs.relay_model.Responses.{operation_says}
use Rattle.plan_ir.specs.schema_tables.Types as schema
use Rattle.plan_ir.specs.schema_tables.Types.{Text, Defs}
use Rattle.plan_ir.specs.schema_types.Environments.{Values, environment}
use Rattle.plan_ir.specs.schema_types.NameRules.{fragment_named, fragments, operations}
use Rattle.plan_ir.specs.schema_types.Sites.{FragmentAt, OperationAt}
use Rattle.serde_json.specs.Data as J
use Rattle.plan_ir.specs.store_model.Walks.{Slots, type_of_record}

-- both are there and this holds of them, or neither is there
abbrev pub Agree : {X Y : Type 0} → (X → Y → Type 0) → Option X → Option Y → Type 0
Agree P None None = Unit {0}
Agree P None (Some y) = ⊥
Agree P (Some x) None = ⊥
Agree P (Some x) (Some y) = P x y

-- ---- operations

-- the operation of a name
abbrev pub operation_in : Defs → List (Placed Document) → Text → Option OperationAt
operation_in defs ps n = operation_named (operations (definitions_in defs ps)) n

-- what is kept of an operation: its kind, its root type, and its variables in written order
pub record KeepsOperation (defs : Defs) (n : Text) (o : OperationAt) (c : Compiled) : Type 0 where
  pub name : c.name ≡ n
  pub kind : c.kind ≡ o.kind
  pub root : c.root ≡ name_or (schema.root defs o.kind)
  pub rooted : schema.root defs o.kind ≡ Some c.root
  pub types : c.types ≡ c.root ∷ []
  pub variables : c.variables ≡ variable_trees o.variables

-- the plan is formed and typed, its connections have their pages, and on each object type it says of fields what the schema says; under each
-- environment, each response says to it what it says to the operation along the documents, with the fields that are added, and in each map of records the
-- walk by it stands at the same ids as the walk of the operation
pub record Normalizes (defs : Defs) (ps : List (Placed Document)) (o : OperationAt) (c : Compiled) : Type 0 where
  pub formed : is_formed c.normal.value.steps ≡ true
  pub typed : is_typed c.normal.value.steps ≡ true
  pub paged : has_pages c.normal.value.steps ≡ true
  pub fits : FitsSchema defs c.root c.normal.value.steps
  pub says : (own : Values) (response : J.Data) → plan_says c.root own c.normal.value.steps response ≡ operation_says (project defs ps) no_place o own response
  pub reaches : (own : Values) (m : Slots) (id j : Text) → has_text (plan_reaches (type_of_record c.root) m own c.normal.value.steps (c.root ∷ []) id) j
      ≡ has_text (operation_reaches (project defs ps) no_place o own m id) j

-- ---- fragments

-- the fragment of a name
abbrev pub fragment_in : Defs → List (Placed Document) → Text → Option FragmentAt
fragment_in defs ps n = fragment_named (fragments (definitions_in defs ps)) n

-- what is kept of a fragment: its type, the object types that a value of it may have, and its local variables in written order. Whatever
-- values they are given, an environment of them has them and no others
pub record KeepsFragment (defs : Defs) (n : Text) (f : FragmentAt) (c : CompiledFragment) : Type 0 where
  pub name : c.name ≡ n
  pub on : c.on ≡ f.on.name
  pub composite : schema.is_composite defs c.on ≡ true
  pub types : c.types ≡ schema.possible defs c.on
  pub locals : map local_view c.locals ≡ locals_of f.directives
  pub bare : directives_of_all c.locals ≡ []
  pub scopes : (given : Values) → AreLocals f (environment c.locals given)

-- ---- reading

-- the plan is typed; for every map, owner and id, under each environment, it reads what the operation along the documents shows in the masked form
pub record ReadsOperation (defs : Defs) (ps : List (Placed Document)) (o : OperationAt) (c : Compiled) : Type 0 where
  pub typed : reader_types.is_typed c.reader.value.steps ≡ true
  pub reads : (own : Values) (owner : Text) (m : Slots) (id : Text)
      → plan_reads (type_of_record c.root) owner m own c.reader.value.steps c.types id ≡ operation_reads (project defs ps) o own owner m id

-- the same of a fragment, under an operation of any root type, for all values of its local variables
pub record ReadsFragment (defs : Defs) (ps : List (Placed Document)) (f : FragmentAt) (c : CompiledFragment) : Type 0 where
  pub typed : reader_types.is_typed c.reader.value.steps ≡ true
  pub reads : (operation_type : Text) (own scope : Values) → AreLocals f scope → (owner : Text) (m : Slots) (id : Text)
      → plan_reads (type_of_record operation_type) owner m (with_marked own scope) c.reader.value.steps c.types id
      ≡ fragment_reads (project defs ps) f operation_type own scope owner m id

-- ---- all of it

pub record IsOperation (defs : Defs) (ps : List (Placed Document)) (n : Text) (o : OperationAt) (c : Compiled) : Type 0 where
  pub keeps : KeepsOperation defs n o c
  pub normalizes : Normalizes defs ps o c
  pub reads : ReadsOperation defs ps o c

pub record IsFragment (defs : Defs) (ps : List (Placed Document)) (n : Text) (f : FragmentAt) (c : CompiledFragment) : Type 0 where
  pub keeps : KeepsFragment defs n f c
  pub reads : ReadsFragment defs ps f c

-- by each name this is found, where the documents have it
abbrev pub HasOperations : Defs → List (Placed Document) → (Text → Option Compiled) → Type 0
HasOperations defs ps find = (n : Text) → Agree (IsOperation defs ps n) (operation_in defs ps n) (find n)

abbrev pub HasFragments : Defs → List (Placed Document) → (Text → Option CompiledFragment) → Type 0
HasFragments defs ps find = (n : Text) → Agree (IsFragment defs ps n) (fragment_in defs ps n) (find n)
