-- What holds of expanded operations and of their plans.
use Rattle.std.specs.Prelude.{◌≡◌, ℕ, List, [], ◌∷◌, Some, None}
use Rattle.plan_ir.specs.gql_ast.declared.document.Document.{Document}
use Rattle.plan_ir.specs.gql_ast.declared.place.FilePlace.{FilePlace}
use Rattle.plan_ir.specs.gql_ast.declared.place.Placed.{Placed}
use Rattle.plan_ir.specs.gql_graph.Rules.{first_broken}
use Rattle.plan_ir.specs.gql_plain.Order.{has_text}
use Rattle.doc_merge.specs.Collected.{AreAlike, Pairwise}
use Rattle.doc_merge.specs.Faults.{field_differences}
use Rattle.doc_merge.specs.Gathering.{fields_in}
use Rattle.doc_merge.specs.Paths.{paths}
use Rattle.plan_build.specs.Connected.{IsConnected}
use Rattle.plan_build.specs.FieldsAlike.{FieldsAreAlike}
use Rattle.plan_build.specs.Meeting.{FragmentsMeet, OperationMeetsRules}
use Rattle.plan_build.specs.NodesMeaning.{nodes_say}
use Rattle.plan_build.specs.Plans.{MeansTheSame, ReachesTheSame}
use Rattle.plan_build.specs.Suited.{IsSuited}
use Rattle.plan_ir.specs.Expansion.{Project, operation_named, project_of, whole_operation}
use Rattle.plan_ir.specs.Normal.{Normal}
use Rattle.plan_ir.specs.NormalMeaning.{plan_says}
use Rattle.plan_ir.specs.NormalReach.{plan_reaches}
use Rattle.plan_ir.specs.declared.expanded.Expanded.{Expanded}
use Rattle.relay_rules.specs.RelayRules.{document_rules}
use Rattle.relay_model.specs.Reaches.{operation_reaches}
use Rattle.relay_model.specs.Responses.{operation_says}
use Rattle.plan_ir.specs.schema_rules.Checked.{IsSound}
use Rattle.plan_ir.specs.schema_tables.Types.{Text, Defs}
use Rattle.plan_ir.specs.schema_types.DocumentRules.{trees_of}
use Rattle.plan_ir.specs.schema_types.Environments.{Values}
use Rattle.plan_ir.specs.schema_types.NameRules.{operations}
use Rattle.plan_ir.specs.schema_types.Sites.{DefinitionAt, OperationAt, all_definitions}
use Rattle.serde_json.specs.Data as J
use Rattle.plan_ir.specs.store_model.Walks.{Slots, type_of_record}

-- a response says to an operation of the documents what it says to the operation's expansion
abbrev pub DocumentsAreNodes : Type 0
DocumentsAreNodes = (p : Project) (place : FilePlace) (o : OperationAt) (own : Values) (response : J.Data)
    → operation_says p place o own response ≡ nodes_say p.defs (whole_operation p o).expanded own response

-- ---- any operation: one of documents, and one that is made

-- where all fields can merge (V24), they are alike
abbrev pub MergingFieldsAreAlike : Type 0
MergingFieldsAreAlike = (defs : Defs) (e : Expanded) → field_differences defs e ≡ [] → FieldsAreAlike defs e

-- so are those of which any two that are collected for one object have one form
abbrev pub FieldsOfOneFormAreAlike : Type 0
FieldsOfOneFormAreAlike = (defs : Defs) (e : Expanded) → Pairwise AreAlike (paths (fields_in defs e)) → FieldsAreAlike defs e

-- the expansion of an operation that meets the rules that it needs is suited
abbrev pub OperationsThatMeetAreSuited : Type 0
OperationsThatMeetAreSuited = (p : Project) (o : OperationAt) → IsSound p.defs → OperationMeetsRules p o → IsSuited p.defs (whole_operation p o).expanded

-- and its connections ask for their pages
abbrev pub OperationsThatMeetAreConnected : Type 0
OperationsThatMeetAreConnected = (p : Project) (o : OperationAt) → IsSound p.defs → OperationMeetsRules p o → IsConnected p.defs (whole_operation p o).expanded

-- where it is suited and its fields are alike, each response says to its plan what it says to the operation
abbrev pub PlansMeanSuitedOperations : Type 0
PlansMeanSuitedOperations = (p : Project) (added : FilePlace) (o : OperationAt) (plan : Normal)
    → IsSound p.defs → IsSuited p.defs (whole_operation p o).expanded → FieldsAreAlike p.defs (whole_operation p o).expanded
    → MeansTheSame p.defs (whole_operation p o).expanded plan
    → (own : Values) (response : J.Data) → plan_says (whole_operation p o).expanded.root own plan response ≡ operation_says p added o own response

-- and in each map of records the walk by its plan stands at the same ids as the walk of the operation
abbrev pub PlansReachSuitedOperations : Type 0
PlansReachSuitedOperations = (p : Project) (added : FilePlace) (o : OperationAt) (plan : Normal)
    → IsSound p.defs → IsSuited p.defs (whole_operation p o).expanded → FieldsAreAlike p.defs (whole_operation p o).expanded
    → ReachesTheSame p.defs (whole_operation p o).expanded plan
    → (own : Values) (m : Slots) (id j : Text)
    → has_text (plan_reaches (type_of_record (whole_operation p o).expanded.root) m own plan ((whole_operation p o).expanded.root ∷ []) id) j
    ≡ has_text (operation_reaches p added o own m id) j

-- ---- operations of documents

-- all definitions of documents, with the numbers of their nodes
abbrev pub definitions : Defs → List (Placed Document) → List DefinitionAt
definitions defs ps = all_definitions defs (trees_of ps)

abbrev pub MeetsRules : Defs → List (Placed Document) → Type 0
MeetsRules defs ps = first_broken (document_rules defs (definitions defs ps)) ≡ None

-- each fragment of documents that meet V1 to V22 meets the rules that plans need
abbrev pub FragmentsOfDocumentsMeet : Type 0
FragmentsOfDocumentsMeet = (defs : Defs) (ps : List (Placed Document)) (place : ℕ → FilePlace) → IsSound defs → MeetsRules defs ps → FragmentsMeet (project_of defs place (definitions defs ps))

-- and so each operation of them that has a name
abbrev pub OperationsOfDocumentsMeet : Type 0
OperationsOfDocumentsMeet = (defs : Defs) (ps : List (Placed Document)) (place : ℕ → FilePlace) (name : Text) (o : OperationAt) → IsSound defs → MeetsRules defs ps
    → operation_named (operations (definitions defs ps)) name ≡ Some o → OperationMeetsRules (project_of defs place (definitions defs ps)) o

-- so its expansion is suited
abbrev pub OperationsAreSuited : Type 0
OperationsAreSuited = (defs : Defs) (ps : List (Placed Document)) (place : ℕ → FilePlace) (name : Text) (o : OperationAt) → IsSound defs → MeetsRules defs ps
    → operation_named (operations (definitions defs ps)) name ≡ Some o → IsSuited defs (whole_operation (project_of defs place (definitions defs ps)) o).expanded

-- so, where its fields merge too (V24), each response says to its plan what it says to the operation of the documents
abbrev pub PlansMeanDocuments : Type 0
PlansMeanDocuments = (defs : Defs) (ps : List (Placed Document)) (place : ℕ → FilePlace) (added : FilePlace) (name : Text) (o : OperationAt) (plan : Normal)
    → IsSound defs → MeetsRules defs ps → operation_named (operations (definitions defs ps)) name ≡ Some o
    → field_differences defs (whole_operation (project_of defs place (definitions defs ps)) o).expanded ≡ []
    → MeansTheSame defs (whole_operation (project_of defs place (definitions defs ps)) o).expanded plan
    → (own : Values) (response : J.Data)
    → plan_says (whole_operation (project_of defs place (definitions defs ps)) o).expanded.root own plan response
    ≡ operation_says (project_of defs place (definitions defs ps)) added o own response

-- and in each map of records the walk by its plan stands at the same ids as the walk of the operation
abbrev pub PlansReachDocuments : Type 0
PlansReachDocuments = (defs : Defs) (ps : List (Placed Document)) (place : ℕ → FilePlace) (added : FilePlace) (name : Text) (o : OperationAt) (plan : Normal)
    → IsSound defs → MeetsRules defs ps → operation_named (operations (definitions defs ps)) name ≡ Some o
    → field_differences defs (whole_operation (project_of defs place (definitions defs ps)) o).expanded ≡ []
    → ReachesTheSame defs (whole_operation (project_of defs place (definitions defs ps)) o).expanded plan
    → (own : Values) (m : Slots) (id j : Text)
    → has_text (plan_reaches (type_of_record (whole_operation (project_of defs place (definitions defs ps)) o).expanded.root) m own plan
    ((whole_operation (project_of defs place (definitions defs ps)) o).expanded.root ∷ []) id) j
    ≡ has_text (operation_reaches (project_of defs place (definitions defs ps)) added o own m id) j
