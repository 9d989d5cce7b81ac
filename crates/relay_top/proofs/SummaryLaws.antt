-- The summary of the large script, from what was written for its lines.
use Rattle.std.proofs.Common.{◌≡◌, ◌-◌, ℕ, List, [], ◌∷◌, length, sym, ap, subst, ◌∙◌}
use Rattle.bulk_laws.proofs.Accepted.{bulk_is_accepted}
use Rattle.bulk_laws.specs.BulkProject.{bulk_project}
use Rattle.plan_ir.specs.gql_ast.declared.document.Document.{Document}
use Rattle.plan_ir.specs.gql_ast.declared.place.Placed.{Placed}
use Rattle.relay_forms.specs.plan_project.Verdicts.{AreTheProject, Files, HaveTheFault}
use Rattle.relay_forms.specs.plan_project.declared.compiling.CompileFault.TheVariants.{Refused}
use Rattle.relay_forms.specs.plan_project.declared.fault.ProjectFault.{ProjectFault}
use Rattle.relay_forms.specs.relay_machine.Bulk.{bulk_document, bulk_output, bulk_refusals, bulk_schema, bulk_summary, line_count}
use Rattle.relay_forms.specs.relay_machine.Machine.{Project}
use Rattle.relay_forms.specs.relay_machine.Printed.{summary_line}
use Rattle.relay_forms.specs.Projects.{project_shown}
use Rattle.plan_ir.specs.schema_tables.Types.{Text, Defs}

module _ (files : Files) (schema document : Text) (same : files ≡ (schema, bulk_schema) ∷ (document, bulk_document) ∷ []) where
  pub project_is : (parts : Defs × List (Placed Document)) → AreTheProject files parts.0 parts.1 → project_shown parts ≡ bulk_project
  project_is parts is =
      let theirs = subst (λ fs. AreTheProject fs parts.0 parts.1) same is in
      sym (ap project_shown (theirs.only bulk_project.defs bulk_project.documents bulk_is_accepted))

  pub never_refused : (f : ProjectFault) → HaveTheFault files (Refused f) → ⊥
  never_refused f is =
      let theirs = subst (λ fs. HaveTheFault fs (Refused f)) same is in theirs.none bulk_project.defs bulk_project.documents bulk_is_accepted

-- where so much was written for the lines of a script that is run against the project
pub summary_is : (p : Project) → p ≡ bulk_project → (seed count bytes lines refused : ℕ) → bytes ≡ length (bulk_output p seed count) → lines ≡ line_count (bulk_output p seed count)
    → refused ≡ bulk_refusals p seed count → summary_line bytes count (lines - count) refused ≡ bulk_summary bulk_project seed count
summary_is p same seed count bytes lines refused bytes_are lines_are refused_are =
    let out = bulk_output p seed count in
    ap (λ b. summary_line b count (lines - count) refused) bytes_are ∙ ap (λ l. summary_line (length out) count (l - count) refused) lines_are
    ∙ ap (λ r. summary_line (length out) count (line_count out - count) r) refused_are ∙ ap (λ q. bulk_summary q seed count) same
