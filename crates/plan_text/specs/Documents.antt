-- The text of an operation as a document.
use Rattle.std.specs.Prelude.{◌≡◌, ℕ, false, List, [], ◌∷◌, Some, IfSome, IsUtf8}
use Rattle.std.specs.List.{AllByRecursion}
use Rattle.plan_ir.specs.gql_ast.declared.document.Definition.TheVariants as D
use Rattle.plan_ir.specs.gql_ast.declared.document.Document.{Document}
use Rattle.plan_ir.specs.gql_ast.declared.place.Placed.{Placed}
use Rattle.plan_ir.specs.gql_lex.Sources.{lex_from}
use Rattle.plan_ir.specs.gql_lex.Toks.{tokens_of}
use Rattle.gql_parse.specs.Documents.{FormedVariable, Written, documents, full, nodes_of}
use Rattle.gql_parse.specs.Trees.{IsDocument}
use Rattle.plan_ir.specs.gql_syntax.FirstFault.{Shallow}
use Rattle.plan_ir.specs.gql_syntax.Formed.{FormedArguments, FormedDirectives}
use Rattle.plan_ir.specs.gql_syntax.Places.{place_nodes}
use Rattle.plan_ir.specs.gql_syntax.Texts.{nesting_limit}
use Rattle.plan_ir.specs.gql_syntax.Words.{IsName}
use Rattle.plan_ir.specs.Nodes.{Nodes, end, field, inline}
use Rattle.plan_ir.specs.OperationText.{operation_text}
use Rattle.plan_ir.specs.declared.expanded.Expanded.{Expanded}
use Rattle.plan_collect.specs.Printed.{printed_operation}

abbrev pub SomeNode : Nodes → Type 0
SomeNode end = ⊥
SomeNode (field r n xs ds c of s p rest) = Unit {0}
SomeNode (inline o ds s p rest) = Unit {0}

-- all names are Names, each Int lies within 64 bits, and no inline fragment is empty
abbrev pub FormedNodes : Nodes → Type 0
FormedNodes end = Unit {0}
FormedNodes (field r n xs ds c of s p rest) =
    IsName r × IsName n × FormedArguments false xs × FormedDirectives false ds × FormedNodes s × FormedNodes rest
FormedNodes (inline o ds s p rest) =
    IfSome o IsName × FormedDirectives false ds × SomeNode s × FormedNodes s × FormedNodes rest

pub record FormedExpanded (e : Expanded) : Type 0 where
  pub name : IsName e.name
  pub variables : AllByRecursion FormedVariable e.variables
  pub directives : FormedDirectives false e.directives
  pub some : SomeNode e.selections
  pub selections : FormedNodes e.selections

-- the document of the printed operation alone
abbrev pub document_parts : Expanded → List Written
document_parts e = full (D.Operation (printed_operation e)) ∷ []

-- the text of an expanded operation is the spelling of the printed operation: a document of one operation, of the same
-- kind and name
abbrev pub SpellsPrinted : Type 0
SpellsPrinted = (e : Expanded) → FormedExpanded e → tokens_of (operation_text e) ≡ Some (documents.tokens (document_parts e))

-- the document that the text is, with the places of its nodes
abbrev pub document_of : (file : ℕ) → Expanded → Placed Document
document_of file e = record {
  tree = record { definitions = D.Operation (printed_operation e) ∷ [] };
  places = place_nodes file (operation_text e) [] (nodes_of (document_parts e)) (lex_from 0 (operation_text e));
}

-- the text is this document, where it is a text and its sets and values nest as deep as may be read
abbrev pub IsOneDocument : Type 0
IsOneDocument = (file : ℕ) (e : Expanded) → FormedExpanded e → IsUtf8 (operation_text e) → Shallow nesting_limit (documents.levels (document_parts e))
    → IsDocument file (operation_text e) (document_of file e)
