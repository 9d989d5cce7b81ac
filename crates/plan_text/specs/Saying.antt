-- What the text of an operation says: how it is spelled, which document it is, and what that collects.
use Rattle.std.specs.Prelude.{◌≡◌, ℕ, Some, IsUtf8}
use Rattle.plan_ir.specs.gql_ast.declared.document.Document.{Document}
use Rattle.plan_ir.specs.gql_ast.declared.place.Placed.{Placed}
use Rattle.plan_ir.specs.gql_lex.Toks.{tokens_of}
use Rattle.gql_parse.specs.Documents.{documents}
use Rattle.gql_parse.specs.Trees.{IsDocument}
use Rattle.plan_ir.specs.gql_syntax.FirstFault.{Shallow}
use Rattle.plan_ir.specs.gql_syntax.Texts.{nesting_limit}
use Rattle.plan_ir.specs.Expansion.{Project, whole_operation}
use Rattle.plan_ir.specs.OperationText.{operation_text}
use Rattle.plan_text.specs.Documents.{FormedExpanded, document_of, document_parts}
use Rattle.plan_collect.specs.Printed.{printed_operation}
use Rattle.plan_collect.specs.SameGroups.{AsksTheSame}
use Rattle.plan_ir.specs.schema_tables.Types.{Text}
use Rattle.plan_ir.specs.schema_types.Sites.{OperationAt}

-- a text is this document, and no other
pub record IsThisDocument (file : ℕ) (text : Text) (document : Placed Document) : Type 0 where
  pub is : IsDocument file text document
  pub only : (other : Placed Document) → IsDocument file text other → other ≡ document

-- a text says an operation of the documents: its tokens are those of the operation printed, it is the document of that alone, whatever number its
-- file has, and that operation collects what the one of the documents does
pub record SaysTheOperation (text : Text) (p : Project) (o : OperationAt) : Type 0 where
  pub spells : tokens_of text ≡ Some (documents.tokens (document_parts (whole_operation p o).expanded))
  pub reads : (file : ℕ) → IsThisDocument file text (document_of file (whole_operation p o).expanded)
  pub collects : AsksTheSame p o (printed_operation (whole_operation p o).expanded)

-- the text of an expanded operation says it, where it may be read
abbrev pub TextSaysTheOperation : Type 0
TextSaysTheOperation =
    (p : Project) (o : OperationAt) → FormedExpanded (whole_operation p o).expanded → IsUtf8 (operation_text (whole_operation p o).expanded)
    → Shallow nesting_limit (documents.levels (document_parts (whole_operation p o).expanded)) → SaysTheOperation (operation_text (whole_operation p o).expanded) p o
