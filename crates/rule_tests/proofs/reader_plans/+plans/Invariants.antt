-- A step is at most as deep as the plan in which it stands.
use Rattle.std.proofs.Common.{◌+◌, ◌*◌}
use Rattle.plan_ir.specs.Reader.{depth}
use Rattle.plan_ir.specs.ReaderView.{step_of}
use Rattle.rule_tests.proofs.reader_plans.+plans.Given as goal

abbrev pub decreases-put_plan : goal.decreases-put_plan
decreases-put_plan l = 2 * depth l.steps.now + 1

abbrev pub decreases-put_step : goal.decreases-put_step
decreases-put_step l = 2 * depth (step_of l.step.now)
