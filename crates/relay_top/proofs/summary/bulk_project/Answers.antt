use Rattle.std.proofs.Common.{subst, ◌∙◌}
use Rattle.relay_forms.specs.plan_project.Verdicts.{HaveTheFault}
use Rattle.relay_top.proofs.SummaryLaws.{never_refused, project_is}
use Rattle.relay_top.proofs.summary.bulk_project.Goals as goal

pub returns-in-Ok : goal.returns-in-Ok
returns-in-Ok c =
    let files = c.in_ok-files.ensures in
    project_is c.deref.result.now files.0 files.1 (c.deref.ensures.value ∙ files.2) c.in-Ok.project c.in-Ok.ensures.project

pub unreachable-requires : goal.unreachable-requires
unreachable-requires c =
    let files = c.in_ok-files.ensures in
    let fault = subst (HaveTheFault c.deref.result.now) c.in-Err-Refused.field-0-is c.in-Err-Refused.ensures.fault in
    never_refused c.deref.result.now files.0 files.1 (c.deref.ensures.value ∙ files.2) c.in-Err-Refused.field-0-0 fault
