-- What the check said is noted.
use Rattle.std.proofs.Common.{Some, subst}
use Rattle.plan_read.specs.doc_merge.Faults.{IsFirstFault, first_fault}
use Rattle.plan_read.specs.doc_merge.declared.fault.PlaceFault.{PlaceFault}
use Rattle.plan_project.proofs.NotingSteps.{fault_said}
use Rattle.plan_project.proofs.expansions.note_merge.Goals as goal
use Rattle.plan_project.specs.Noting.{HasNotedFault}

pub returns-in-Err-Rule : goal.returns-in-Err-Rule
returns-in-Err-Rule c =
    fault_said c.args.noted.now c.note_fault.new.self (first_fault c.args.schema.now c.args.expanded.now) c.in-Err-Rule.fault
    (subst (IsFirstFault c.args.schema.now c.args.expanded.now) c.in-Err-Rule.field-0-is c.in-Err-Rule.ensures.fault)
    (subst (λ (f : PlaceFault). HasNotedFault c.args.noted.now c.note_fault.new.self (Some f)) c.in-Err-Rule.fault-is c.note_fault.ensures)
