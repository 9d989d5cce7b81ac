-- The project that texts are: a script is run against it, or it is compiled.
use Rattle.std.specs.Prelude.{List}
use Rattle.plan_ir.specs.gql_ast.declared.document.Document.{Document}
use Rattle.plan_ir.specs.gql_ast.declared.place.Placed.{Placed}
use Rattle.plan_project.specs.Projects.{IsAccepted}
use Rattle.relay_machine.specs.Machine.{Project}
use Rattle.plan_ir.specs.schema_tables.Types.{Text, Defs}

-- the texts are a schema and documents that meet all rules
abbrev pub IsProjectOf : (schema : Text) → (texts : List Text) → Project → Type 0
IsProjectOf schema texts p = IsAccepted schema texts p.defs p.documents

-- a project of the code, as the machine sees it
abbrev pub project_shown : Defs × List (Placed Document) → Project
project_shown parts = record { defs = parts.0; documents = parts.1 }
