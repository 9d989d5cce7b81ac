-- The schema that a text is.
use Rattle.std.specs.Prelude.{◌≡◌, ℕ, List, map}
use Rattle.gql_syntax.specs.gql_ast.declared.place.Placed.{Placed}
use Rattle.gql_syntax.specs.gql_ast.declared.schema.SchemaTree.{SchemaTree}
use Rattle.gql_sdl.specs.Schemas.{Described, definition_of, schemas, nodes_of}
use Rattle.gql_syntax.specs.Texts.{IsTree}

pub record IsSchema (file : ℕ) (text : List ℕ) (p : Placed SchemaTree) : Type 0 where
  pub written : List Described
  pub tree : IsTree schemas nodes_of file text written p.places
  pub definitions : p.tree.definitions ≡ map definition_of written
