-- What holds of the large script.
use Rattle.std.specs.Prelude.{◌≡◌, ℕ, [], ◌∷◌, false}
use Rattle.bulk_laws.specs.BulkProject.{bulk_project}
use Rattle.plan_project.specs.Projects.{IsAccepted}
use Rattle.relay_machine.specs.Bulk.{bulk_buffer, bulk_document, bulk_lines, bulk_refusals, bulk_schema}
use Rattle.relay_machine.specs.Machine.{some_refused}

-- its schema and its document are a project that is accepted
abbrev pub BulkIsAccepted : Type 0
BulkIsAccepted = IsAccepted bulk_schema (bulk_document ∷ []) bulk_project.defs bulk_project.documents

-- from no seed on is a line refused
abbrev pub NoLineIsRefused : Type 0
NoLineIsRefused = (seed count : ℕ) → (some_refused bulk_project bulk_buffer (bulk_lines seed count) ≡ false) × (bulk_refusals bulk_project seed count ≡ 0)
