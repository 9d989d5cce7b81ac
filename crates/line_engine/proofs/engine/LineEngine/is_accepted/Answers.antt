use Rattle.std.proofs.Common.{subst}
use Rattle.line_engine.proofs.engine.LineEngine.is_accepted.Goals as goal
use Rattle.line_engine.specs.Kept.{Kept}
use Rattle.plan_project.specs.Projects.{IsAcceptedProject}

pub returns : goal.returns
returns g c = subst (λ (k : Kept). IsAcceptedProject k.defs k.documents) c.self.view_is c.is_accepted.ensures
