-- What stands ready to plan reads, and the steps that are made of it.
use Rattle.std.specs.Prelude.{◌≡◌, List, [], ◌∷◌, Option, Some, length}
use Rattle.plan_ir.specs.gql_ast.Sels.{Sels}
use Rattle.plan_ir.specs.Projects.{definitions_in}
use Rattle.plan_ir.specs.Expansion.{name_or}
use Rattle.plan_ir.specs.Reader.{Reader}
use Rattle.plan_ir.specs.Substitution.{Scope, mark_local, operation_scope}
use Rattle.plan_read.specs.OperationsView.{HasOperations, ReadyOperation, find_operation}
use Rattle.plan_read.specs.Reading.{HasFragments, Ready, reading}
use Rattle.plan_read.specs.ReadyView.{find_in}
use Rattle.plan_read.specs.declared.reader.Readers.{Readers}
use Rattle.plan_ir.specs.schema_tables.Types.{Text, possible, root}
use Rattle.plan_ir.specs.schema_types.NameRules.{fragments, operations}

-- what stands ready is that of the schema and the documents
pub record IsReady (r : Readers) : Type 0 where
  pub fragments_found : HasFragments (find_in r.fragments) (fragments (definitions_in r.schema.now r.documents.now))
  pub operations_found : HasOperations (find_operation r.operations) (operations (definitions_in r.schema.now r.documents.now))
  pub all_spreads : r.spreads ≡ length (fragments (definitions_in r.schema.now r.documents.now))

abbrev pub steps_made : Readers → Scope → (around : Option Text) → (types : List Text) → Sels → Reader
steps_made r scope over ts s = reading r.spreads r.schema.now (find_in r.fragments) scope over ts s

abbrev pub operation_steps : Readers → ReadyOperation → Reader
operation_steps r o = steps_made r operation_scope (root r.schema.now o.kind) (name_or (root r.schema.now o.kind) ∷ []) o.selections

abbrev pub fragment_steps : Readers → Ready → Reader
fragment_steps r f = steps_made r (λ n. mark_local n (f.locals n)) (Some f.on) (possible r.schema.now f.on) f.selections
