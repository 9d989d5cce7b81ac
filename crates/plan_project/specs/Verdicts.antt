-- What is found of the files of a project: they are accepted, or have one fault, and nothing else beside that.
use Rattle.std.specs.Prelude.{◌≡◌, ◌≤◌, ℕ, List, [], ◌∷◌, map}
use Rattle.plan_ir.specs.gql_ast.declared.document.Document.{Document}
use Rattle.plan_ir.specs.gql_ast.declared.fault.ParseFault.{ParseFault}
use Rattle.plan_ir.specs.gql_ast.declared.fault.ParseFault.TheVariants.{Syntax, NoMemory as NoRoom}
use Rattle.plan_ir.specs.gql_ast.declared.place.Placed.{Placed}
use Rattle.plan_project.specs.Projects.{AreDocuments, IsAccepted, IsSyntaxOf, IsDocumentsFault, IsFirstFault}
use Rattle.plan_project.specs.declared.compiling.CompileFault.{CompileFault}
use Rattle.plan_project.specs.declared.compiling.CompileFault.TheVariants.{Refused, NoMemory}
use Rattle.plan_project.specs.declared.fault.ProjectFault.{ProjectFault}
use Rattle.plan_ir.specs.schema_tables.Types.{Text, Defs}

-- the texts are this project and no other, and have no fault
pub record IsTheProject (schema : Text) (texts : List Text) (defs : Defs) (ps : List (Placed Document)) : Type 0 where
  pub is : IsAccepted schema texts defs ps
  pub only : (other : Defs) (qs : List (Placed Document)) → IsAccepted schema texts other qs → ◌≡◌ {A = Defs × List (Placed Document)} (other, qs) (defs, ps)
  pub sound : (f : ProjectFault) → IsFirstFault schema texts f → ⊥

-- the texts have this fault and no other, and are no project
pub record IsTheFault (schema : Text) (texts : List Text) (f : ProjectFault) : Type 0 where
  pub is : IsFirstFault schema texts f
  pub only : (other : ProjectFault) → IsFirstFault schema texts other → other ≡ f
  pub none : (defs : Defs) (ps : List (Placed Document)) → IsAccepted schema texts defs ps → ⊥

abbrev pub IsRefusal : (schema : Text) → (texts : List Text) → CompileFault → Type 0
IsRefusal schema texts (Refused f) = IsTheFault schema texts f
IsRefusal schema texts NoMemory = Unit {0}

-- ---- files: each has a name and a text, and the first is the schema

abbrev pub Files : Type 0
Files = List (Text × Text)

abbrev pub texts_of : Files → List Text
texts_of files = map (λ (f : Text × Text). f.1) files

abbrev pub AreTheProject : Files → Defs → List (Placed Document) → Type 0
AreTheProject [] defs ps = ⊥
AreTheProject (schema ∷ documents) defs ps = IsTheProject schema.1 (texts_of documents) defs ps

abbrev pub HaveTheFault : Files → CompileFault → Type 0
HaveTheFault [] fault = ⊥
HaveTheFault (schema ∷ documents) fault = IsRefusal schema.1 (texts_of documents) fault

-- ---- texts

-- the texts are these documents and no others
pub record AreOnlyDocuments (n : ℕ) (texts : List Text) (ps : List (Placed Document)) : Type 0 where
  pub are : AreDocuments n texts ps
  pub only : (others : List (Placed Document)) → AreDocuments n texts others → others ≡ ps

-- the code of a fault is one of the eight
abbrev pub IsCoded : ParseFault → Type 0
IsCoded (Syntax s) = (1 ≤ s.code) × (s.code ≤ 8)
IsCoded NoRoom = Unit {0}

-- the texts are no documents, by this fault
abbrev pub AreNoDocuments : (n : ℕ) → List Text → ParseFault → Type 0
AreNoDocuments n texts (Syntax s) = IsCoded (Syntax s) × ((f : ProjectFault) → IsSyntaxOf s f → IsDocumentsFault n texts f)
AreNoDocuments n texts NoRoom = Unit {0}

-- a text's fault is a project's
abbrev pub IsFaultOf : ParseFault → CompileFault → Type 0
IsFaultOf (Syntax s) (Refused f) = IsSyntaxOf s f
IsFaultOf NoRoom NoMemory = Unit {0}
IsFaultOf fault refusal = ⊥
