-- The laws of the order of places: the numbers that rules give to nodes are in the order of the nodes' places.
use Rattle.std.specs.Prelude.{ℕ, List}
use Rattle.plan_ir.specs.gql_ast.declared.document.Document.{Document}
use Rattle.plan_ir.specs.gql_ast.declared.place.Placed.{Placed}
use Rattle.plan_ir.specs.gql_ast.declared.schema.SchemaTree.{SchemaTree}
use Rattle.plan_ir.specs.schema_tables.Types.{Text}
use Rattle.plan_ir.specs.schema_types.DocumentRules.{places_of}
use Rattle.plan_project.specs.Projects.{AreDocuments}
use Rattle.place_order.specs.Rising.{Rise}
use Rattle.plan_project.specs.gql_sdl.Trees.{IsSchema}

-- in a schema that was read
abbrev pub SchemaPlacesRise : Type 0
SchemaPlacesRise = (file : ℕ) (text : Text) (p : Placed SchemaTree) → IsSchema file text p → Rise p.places

-- in documents that were read from files with numbers that rise
abbrev pub DocumentPlacesRise : Type 0
DocumentPlacesRise = (file : ℕ) (texts : List Text) (ps : List (Placed Document)) → AreDocuments file texts ps → Rise (places_of ps)
