-- The document that a text is.
use Rattle.std.specs.Prelude.{◌≡◌, ℕ, List, map}
use Rattle.gql_syntax.specs.gql_ast.declared.document.Document.{Document}
use Rattle.gql_syntax.specs.gql_ast.declared.place.Placed.{Placed}
use Rattle.gql_parse.specs.Documents.{Written, definition_of, documents, nodes_of}
use Rattle.gql_syntax.specs.Texts.{IsTree}

pub record IsDocument (file : ℕ) (text : List ℕ) (p : Placed Document) : Type 0 where
  pub written : List Written
  pub tree : IsTree documents nodes_of file text written p.places
  pub definitions : p.tree.definitions ≡ map definition_of written
