-- The project that a schema and documents are.
use Rattle.std.specs.Prelude.{ℕ, List, get_or}
use Rattle.relay_marks.specs.gql_ast.declared.document.Document.{Document}
use Rattle.relay_marks.specs.gql_ast.declared.place.FilePlace.{FilePlace}
use Rattle.relay_marks.specs.gql_ast.declared.place.Placed.{Placed}
use Rattle.relay_marks.specs.schema_tables.Types.{Defs}
use Rattle.relay_marks.specs.schema_types.DocumentRules.{places_of, trees_of}
use Rattle.relay_marks.specs.schema_types.Sites.{DefinitionAt, all_definitions}
use Rattle.plan_ir.specs.Expansion.{Project, project_of}

abbrev pub Places : Type 0
Places = List FilePlace

-- where there is no place: each node of documents that were read has one, so none of them comes to this
abbrev pub first_place : FilePlace
first_place = record { file = 0; line = 1; column = 1 }

-- the place of a node by its number
abbrev pub place_in : Places → ℕ → FilePlace
place_in places n = get_or places n first_place

abbrev pub definitions_in : Defs → List (Placed Document) → List DefinitionAt
definitions_in defs ps = all_definitions defs (trees_of ps)

-- the project that a schema and documents are
abbrev pub project : Defs → List (Placed Document) → Project
project defs ps = project_of defs (place_in (places_of ps)) (definitions_in defs ps)
