-- Trees that were read have as many places as rules count nodes.
use Rattle.std.proofs.Common.{◌≡◌, ℕ, List, length, sym, ◌∙◌}
use Rattle.gql_parse.specs.gql_ast.declared.document.Document.{Document}
use Rattle.gql_parse.specs.gql_ast.declared.place.Placed.{Placed}
use Rattle.gql_parse.specs.gql_ast.declared.schema.SchemaTree.{SchemaTree}
use Rattle.gql_parse.proofs.NodeCounts as parse
use Rattle.gql_parse.specs.Trees.{IsDocument}
use Rattle.gql_sdl.proofs.NodeCounts as sdl
use Rattle.gql_sdl.specs.Trees.{IsSchema}
use Rattle.schema_types.specs.schema_trees.Numbers.{schema_nodes}
use Rattle.schema_types.specs.Sites.{document_nodes}
use Rattle.text_places.proofs.DocumentCounts.{document_count}
use Rattle.text_places.proofs.SchemaCounts.{schema_count}

-- a schema
pub schema_places : (file : ℕ) (text : List ℕ) (p : Placed SchemaTree) → IsSchema file text p → length p.places ≡ schema_nodes p.tree.definitions
schema_places file text p s = sdl.place_count file text p s ∙ sym (schema_count p.tree)

-- a document
pub document_places : (file : ℕ) (text : List ℕ) (p : Placed Document) → IsDocument file text p → length p.places ≡ document_nodes p.tree
document_places file text p d = parse.place_count file text p d ∙ sym (document_count p.tree)
