-- What the plans of operations and fragments that are read mean: masked reading along the documents.
use Rattle.std.specs.Prelude.{◌≡◌, ℕ, List, [], ◌∷◌, Some, is_some}
use Rattle.plan_build.specs.doc_merge.Faults.{field_differences}
use Rattle.plan_ir.specs.gql_ast.declared.document.Document.{Document}
use Rattle.plan_ir.specs.gql_ast.declared.place.FilePlace.{FilePlace}
use Rattle.plan_ir.specs.gql_ast.declared.place.Placed.{Placed}
use Rattle.plan_ir.specs.gql_plain.Order.{member_at}
use Rattle.plan_build.specs.FieldsAlike.{FieldsAreAlike}
use Rattle.plan_build.specs.Laws.{MeetsRules, definitions}
use Rattle.plan_build.specs.Meeting.{FragmentMeetsRules}
use Rattle.plan_build.specs.Suited.{IsSuited, Suited}
use Rattle.plan_read.specs.Constants.{AreConstant}
use Rattle.plan_read.specs.Steps.{fragment_reader, operation_reader}
use Rattle.plan_ir.specs.Expansion.{Project, name_or, operation_named, project_of, whole_fragment, whole_operation}
use Rattle.plan_ir.specs.ReaderMeaning.{plan_reads}
use Rattle.plan_ir.specs.Substitution.{default_named}
use Rattle.plan_ir.specs.relay_marks.Locals.{locals_of}
use Rattle.plan_build.specs.relay_model.Readings.{fragment_reads, operation_reads, with_marked}
use Rattle.plan_ir.specs.schema_rules.Checked.{IsSound}
use Rattle.plan_ir.specs.schema_tables.Types.{Text, Defs, possible, root}
use Rattle.plan_ir.specs.schema_types.Environments.{Values}
use Rattle.plan_ir.specs.schema_types.NameRules.{fragment_named, fragments, operations}
use Rattle.plan_ir.specs.schema_types.Sites.{FragmentAt, OperationAt}
use Rattle.plan_ir.specs.store_model.Walks.{Slots, type_of_record}

-- values of all local variables of a fragment, and of no other
abbrev pub AreLocals : FragmentAt → Values → Type 0
AreLocals f scope = (n : Text) → is_some (member_at scope n) ≡ is_some (default_named (locals_of f.directives) n)

-- ---- any operation and any fragment: one of documents, and one that is made

-- the expansion of a fragment that meets the rules that it needs is suited, also where the fragment's type is abstract
abbrev pub FragmentsThatMeetAreSuited : Type 0
FragmentsThatMeetAreSuited = (p : Project) (f : FragmentAt) → IsSound p.defs → FragmentMeetsRules p f → Suited p.defs f.on.name f.on.name (whole_fragment p f).expanded.selections

-- under a sound schema, and where local variables of fragments have constant defaults, the plan of an operation whose expansion is suited and
-- whose fields are alike reads what the operation does: the same data, missing, ids stood at, fields looked at and pointers given, for every map,
-- environment, owner and id
abbrev pub ReadersMeanSuitedOperations : Type 0
ReadersMeanSuitedOperations = (p : Project) (o : OperationAt)
    → IsSound p.defs → AreConstant p → IsSuited p.defs (whole_operation p o).expanded → FieldsAreAlike p.defs (whole_operation p o).expanded
    → (own : Values) (owner : Text) (m : Slots) (id : Text)
    → plan_reads (type_of_record (name_or (root p.defs o.kind))) owner m own (operation_reader p o) (name_or (root p.defs o.kind) ∷ []) id ≡ operation_reads p o own owner m id

-- and that of a fragment, under an operation of any root type, for all values of its local variables
abbrev pub ReadersMeanSuitedFragments : Type 0
ReadersMeanSuitedFragments = (p : Project) (f : FragmentAt)
    → IsSound p.defs → AreConstant p → Suited p.defs f.on.name f.on.name (whole_fragment p f).expanded.selections → FieldsAreAlike p.defs (whole_fragment p f).expanded
    → (operation_type : Text) (own scope : Values) → AreLocals f scope → (owner : Text) (m : Slots) (id : Text)
    → plan_reads (type_of_record operation_type) owner m (with_marked own scope) (fragment_reader p f) (possible p.defs f.on.name) id ≡ fragment_reads p f operation_type own scope owner m id

-- ---- those of documents

-- the local variables of the fragments of documents that meet V1 to V22 have constant defaults
abbrev pub LocalsOfDocumentsAreConstant : Type 0
LocalsOfDocumentsAreConstant = (defs : Defs) (ps : List (Placed Document)) (place : ℕ → FilePlace) → MeetsRules defs ps → AreConstant (project_of defs place (definitions defs ps))

-- under a sound schema and documents that meet V1 to V22, the plan of an operation whose fields merge (V24) reads what the operation does:
-- the same data, missing, ids stood at, fields looked at and pointers given, for every map, environment, owner and id
abbrev pub ReadersMeanOperations : Type 0
ReadersMeanOperations = (defs : Defs) (ps : List (Placed Document)) (place : ℕ → FilePlace) (name : Text) (o : OperationAt)
    → IsSound defs → MeetsRules defs ps → operation_named (operations (definitions defs ps)) name ≡ Some o
    → field_differences defs (whole_operation (project_of defs place (definitions defs ps)) o).expanded ≡ []
    → (own : Values) (owner : Text) (m : Slots) (id : Text)
    → plan_reads (type_of_record (name_or (root defs o.kind))) owner m own (operation_reader (project_of defs place (definitions defs ps)) o) (name_or (root defs o.kind) ∷ []) id
    ≡ operation_reads (project_of defs place (definitions defs ps)) o own owner m id

-- and that of a fragment, under an operation of any root type, for all values of its local variables
abbrev pub ReadersMeanFragments : Type 0
ReadersMeanFragments = (defs : Defs) (ps : List (Placed Document)) (place : ℕ → FilePlace) (name : Text) (f : FragmentAt)
    → IsSound defs → MeetsRules defs ps → fragment_named (fragments (definitions defs ps)) name ≡ Some f
    → field_differences defs (whole_fragment (project_of defs place (definitions defs ps)) f).expanded ≡ []
    → (operation_type : Text) (own scope : Values) → AreLocals f scope → (owner : Text) (m : Slots) (id : Text)
    → plan_reads (type_of_record operation_type) owner m (with_marked own scope) (fragment_reader (project_of defs place (definitions defs ps)) f) (possible defs f.on.name) id
    ≡ fragment_reads (project_of defs place (definitions defs ps)) f operation_type own scope owner m id
