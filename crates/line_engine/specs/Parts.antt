-- What the parts of a step say, as the machine sees it.
use Rattle.std.specs.Prelude.{◌≡◌, List}
use Rattle.plan_ir.specs.gql_ast.declared.document.Document.{Document}
use Rattle.plan_ir.specs.gql_ast.declared.place.Placed.{Placed}
use Rattle.line_engine.specs.declared.said.Told.{Told}
use Rattle.line_engine.specs.declared.said.Told.TheVariants.{Facts, Fault}
use Rattle.relay_machine.specs.Machine.{Project}
use Rattle.plan_ir.specs.schema_tables.Types.{Defs}
use Rattle.plan_ir.specs.store_model.Verdicts.{Verdict, content, refusal}

-- a project of the code, as the machine sees it
abbrev pub project_shown : Defs × List (Placed Document) → Project
project_shown parts = record { defs = parts.0; documents = parts.1 }

-- the schema and the documents are those of the project
pub record IsProject (parts : Defs × List (Placed Document)) (p : Project) : Type 0 where
  pub schema : parts.0 ≡ p.defs
  pub documents : parts.1 ≡ p.documents

abbrev pub verdict_told : Told → Verdict
verdict_told (Facts said) = content said
verdict_told (Fault fault) = refusal fault
