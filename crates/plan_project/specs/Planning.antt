-- What stands ready to plan a project's operations and fragments.
use Rattle.std.specs.Prelude.{◌≡◌}
use Rattle.plan_read.specs.plan_expand.Preparing as expanding
use Rattle.plan_project.specs.Projects.{IsAcceptedProject}
use Rattle.plan_project.specs.declared.planner.Planner.{Planner}
use Rattle.plan_read.specs.Preparing as reading

-- it stands ready for one project, which is accepted
pub record CanPlan (p : Planner) : Type 0 where
  pub expander : expanding.IsReady p.expander
  pub readers : reading.IsReady p.readers
  pub same_schema : p.readers.schema.now ≡ p.expander.schema.now
  pub same_documents : p.readers.documents.now ≡ p.expander.documents.now
  pub accepted : IsAcceptedProject p.expander.schema.now p.expander.documents.now
