-- The texts of the operations of an accepted project.
use Rattle.std.specs.Prelude.{◌≡◌, ℕ, List, Option, None, Some}
use Rattle.plan_ir.specs.gql_ast.declared.document.Document.{Document}
use Rattle.plan_ir.specs.gql_ast.declared.place.Placed.{Placed}
use Rattle.text_places.specs.gql_parse.Trees.{IsDocument}
use Rattle.plan_read.specs.plan_expand.Answers.{whole_in}
use Rattle.plan_ir.specs.Projects.{definitions_in, project}
use Rattle.plan_ir.specs.Expansion.{Whole, operation_named}
use Rattle.plan_ir.specs.OperationText.{operation_text}
use Rattle.plan_ir.specs.declared.form.Form.TheVariants as F
use Rattle.plan_project.specs.Projects.{IsAccepted}
use Rattle.plan_text.specs.Documents.{document_of}
use Rattle.plan_read.specs.plan_collect.Printed.{printed_operation}
use Rattle.plan_text.specs.Saying.{SaysTheOperation}
use Rattle.plan_ir.specs.schema_tables.Types.{Text, Defs}
use Rattle.plan_ir.specs.schema_types.NameRules.{operations}
use Rattle.plan_ir.specs.schema_types.Sites.{OperationAt}

-- the text of what the operation of a name becomes is one document and no other, whatever number the file has: that of the
-- printed operation alone, which has this name and the same kind
pub record IsTextOf (file : ℕ) (name : Text) (w : Whole) : Type 0 where
  pub named : w.expanded.name ≡ name
  pub kind : w.expanded.kind ≡ Some (printed_operation w.expanded).kind
  pub is : IsDocument file (operation_text w.expanded) (document_of file w.expanded)
  pub only : (p : Placed Document) → IsDocument file (operation_text w.expanded) p → p ≡ document_of file w.expanded

abbrev pub TextsAreDocuments : Type 0
TextsAreDocuments = (schema : Text) (texts : List Text) (defs : Defs) (ps : List (Placed Document)) → IsAccepted schema texts defs ps
    → (name : Text) (w : Whole) → whole_in defs ps F.Operation name ≡ Some w → (file : ℕ) → IsTextOf file name w

-- the text that is given for a name says the operation of that name; none is given where the documents have none
abbrev pub SaysNamed : Defs → List (Placed Document) → (name : Text) → Option Text → Type 0
SaysNamed defs ps name None = operation_named (operations (definitions_in defs ps)) name ≡ None
SaysNamed defs ps name (Some text) =
    (o : OperationAt) × (operation_named (operations (definitions_in defs ps)) name ≡ Some o) × SaysTheOperation text (project defs ps) o
