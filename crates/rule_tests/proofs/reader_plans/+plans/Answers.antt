-- A step is at most as deep as the plan in which it stands.
use Rattle.std.proofs.Common.{◌≤◌, arith}
use Rattle.plan_ir.proofs.StepDepths.{step_within}
use Rattle.plan_ir.specs.Reader.{depth}
use Rattle.plan_ir.specs.ReaderView.{step_of}
use Rattle.rule_tests.proofs.reader_plans.+plans.Goals as goal

pub put_plan-put_step-requires : goal.put_plan-put_step-requires
put_plan-put_step-requires t c =
    let less : depth (step_of c.step-item.result) ≤ depth c.args.steps.now =
    step_within c.as_slice-step-items.result.now c.steps.step-index c.step-item.result c.args.steps.now (omega arith) c.step-item.is c.as_slice-step-items.ensures in
    (omega (arith, less), tt)
