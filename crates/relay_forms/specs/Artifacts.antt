-- Texts of whole lines, and those of the artifacts of a project.
use Rattle.std.specs.Prelude.{◌≡◌, ◌⊎◌, ℕ, List, [], ◌∷◌, ◌++◌}
use Rattle.plan_ir.specs.gql_ast.declared.document.Document.{Document}
use Rattle.plan_ir.specs.gql_ast.declared.place.Placed.{Placed}
use Rattle.plan_project.specs.Expansions.{artifact_lines}
use Rattle.plan_ir.specs.schema_tables.Types.{Text, Defs}

-- a text of whole lines: it is empty, or its last byte is LF
abbrev pub EndsLine : Text → Type 0
EndsLine text = (text ≡ []) ⊎ ((before : Text) × (text ≡ before ++ 10 ∷ []))

-- lines, each ended by LF
abbrev pub text_of_lines : List Text → Text
text_of_lines [] = []
text_of_lines (line ∷ lines) = (line ++ 10 ∷ []) ++ text_of_lines lines

-- the artifact lines of a project
abbrev pub artifacts_text : Defs → List (Placed Document) → Text
artifacts_text defs ps = text_of_lines (artifact_lines defs ps)
