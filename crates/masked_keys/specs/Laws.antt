-- The laws of masked keys: a read looks at keys of fields that stand in its own text alone, with that of its unmasked and its inline spreads.
use Rattle.std.specs.Prelude.{◌≡◌, ℕ, List, [], ◌∷◌, Some}
use Rattle.std.specs.List.{AllByRecursion}
use Rattle.masked_keys.specs.TextKeys.{StandsIn}
use Rattle.plan_ir.specs.Expansion.{Project, name_or, operation_named, project_of, spreads_in, whole_fragment, whole_operation}
use Rattle.plan_ir.specs.ReaderMeaning.{plan_reads}
use Rattle.plan_ir.specs.gql_ast.declared.document.Document.{Document}
use Rattle.plan_ir.specs.gql_ast.declared.place.FilePlace.{FilePlace}
use Rattle.plan_ir.specs.gql_ast.declared.place.Placed.{Placed}
use Rattle.plan_ir.specs.schema_rules.Checked.{IsSound}
use Rattle.plan_ir.specs.schema_tables.Types.{Text, Defs, possible, root}
use Rattle.plan_ir.specs.schema_types.Environments.{Values}
use Rattle.plan_ir.specs.schema_types.NameRules.{fragment_named, fragments, operations}
use Rattle.plan_ir.specs.schema_types.Sites.{FragmentAt, OperationAt}
use Rattle.plan_ir.specs.store_model.Walks.{Found, Slots, type_of_record}
use Rattle.plan_read.specs.Constants.{AreConstant}
use Rattle.plan_read.specs.Laws.{AreLocals}
use Rattle.plan_read.specs.Steps.{fragment_reader, operation_reader}
use Rattle.plan_read.specs.doc_merge.Faults.{field_differences}
use Rattle.plan_read.specs.plan_build.FieldsAlike.{FieldsAreAlike}
use Rattle.plan_read.specs.plan_build.Laws.{MeetsRules, definitions}
use Rattle.plan_read.specs.plan_build.Suited.{IsSuited, Suited}
use Rattle.relay_model.specs.Readings.{fragment_reads, operation_reads, shadowed_by, with_marked}

-- what is looked at stands in the text of an operation
abbrev pub LooksAtOperation : Project → OperationAt → (own : Values) → Found → Type 0
LooksAtOperation p o own found = AllByRecursion (λ looked. StandsIn (spreads_in p) p own own o.selections looked.1) found.1.looked

-- or in that of a fragment, the values of whose local variables shadow the operation's own
abbrev pub LooksAtFragment : Project → FragmentAt → (own scope : Values) → Found → Type 0
LooksAtFragment p f own scope found =
    AllByRecursion (λ looked. StandsIn (spreads_in p) p (with_marked own scope) (shadowed_by (with_marked own scope) scope) f.selections looked.1) found.1.looked

-- of an operation, in every environment and in all records
abbrev pub OperationsLookAtTheirKeys : Type 0
OperationsLookAtTheirKeys = (p : Project) (o : OperationAt) (own : Values) (owner : Text) (m : Slots) (id : Text)
    → LooksAtOperation p o own (operation_reads p o own owner m id)

-- of a fragment, under an operation of any root type, with any values of its local variables
abbrev pub FragmentsLookAtTheirKeys : Type 0
FragmentsLookAtTheirKeys = (p : Project) (f : FragmentAt) (operation_type : Text) (own scope : Values) (owner : Text) (m : Slots) (id : Text)
    → LooksAtFragment p f own scope (fragment_reads p f operation_type own scope owner m id)

-- and so does a read by the plan of an operation, under a sound schema and fragments of which local variables have constant defaults, where the
-- operation's expansion is suited and its fields are alike
abbrev pub SuitedOperationPlansLookAtTheirKeys : Type 0
SuitedOperationPlansLookAtTheirKeys = (p : Project) (o : OperationAt)
    → IsSound p.defs → AreConstant p → IsSuited p.defs (whole_operation p o).expanded → FieldsAreAlike p.defs (whole_operation p o).expanded
    → (own : Values) (owner : Text) (m : Slots) (id : Text)
    → LooksAtOperation p o own (plan_reads (type_of_record (name_or (root p.defs o.kind))) owner m own (operation_reader p o) (name_or (root p.defs o.kind) ∷ []) id)

-- and one by the plan of a fragment
abbrev pub SuitedFragmentPlansLookAtTheirKeys : Type 0
SuitedFragmentPlansLookAtTheirKeys = (p : Project) (f : FragmentAt)
    → IsSound p.defs → AreConstant p → Suited p.defs f.on.name f.on.name (whole_fragment p f).expanded.selections → FieldsAreAlike p.defs (whole_fragment p f).expanded
    → (operation_type : Text) (own scope : Values) → AreLocals f scope → (owner : Text) (m : Slots) (id : Text)
    → LooksAtFragment p f own scope (plan_reads (type_of_record operation_type) owner m (with_marked own scope) (fragment_reader p f) (possible p.defs f.on.name) id)

-- of documents that meet V1 to V22 a read by the plan of an operation does so, where the operation's fields merge
abbrev pub OperationPlansLookAtTheirKeys : Type 0
OperationPlansLookAtTheirKeys = (defs : Defs) (ps : List (Placed Document)) (place : ℕ → FilePlace) (name : Text) (o : OperationAt)
    → IsSound defs → MeetsRules defs ps → operation_named (operations (definitions defs ps)) name ≡ Some o
    → field_differences defs (whole_operation (project_of defs place (definitions defs ps)) o).expanded ≡ []
    → (own : Values) (owner : Text) (m : Slots) (id : Text)
    → LooksAtOperation (project_of defs place (definitions defs ps)) o own
    (plan_reads (type_of_record (name_or (root defs o.kind))) owner m own (operation_reader (project_of defs place (definitions defs ps)) o) (name_or (root defs o.kind) ∷ []) id)

-- and one by the plan of a fragment
abbrev pub FragmentPlansLookAtTheirKeys : Type 0
FragmentPlansLookAtTheirKeys = (defs : Defs) (ps : List (Placed Document)) (place : ℕ → FilePlace) (name : Text) (f : FragmentAt)
    → IsSound defs → MeetsRules defs ps → fragment_named (fragments (definitions defs ps)) name ≡ Some f
    → field_differences defs (whole_fragment (project_of defs place (definitions defs ps)) f).expanded ≡ []
    → (operation_type : Text) (own scope : Values) → AreLocals f scope → (owner : Text) (m : Slots) (id : Text)
    → LooksAtFragment (project_of defs place (definitions defs ps)) f own scope
    (plan_reads (type_of_record operation_type) owner m (with_marked own scope) (fragment_reader (project_of defs place (definitions defs ps)) f) (possible defs f.on.name) id)
