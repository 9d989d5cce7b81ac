-- What one more step says is put behind.
use Rattle.std.proofs.Common.{◌≤◌, arith}
use Rattle.plan_ir.proofs.StepDepths.{step_within}
use Rattle.plan_ir.specs.Reader.{depth}
use Rattle.plan_ir.specs.ReaderView.{step_of}
use Rattle.plan_order.proofs.NotedSteps.{fragments_next, responses_next}
use Rattle.plan_order.proofs.keys.+note.Goals as goal

pub note_steps-steps-preserved : goal.note_steps-steps-preserved
note_steps-steps-preserved t c = record {
  told = responses_next c.as_slice-step-items.result.now c.steps.step-index c.step-item.result (omega arith) c.step-item.is _ _ _ c.in_ok-note_step.ensures.told c.steps.invariant.told;
  spread = fragments_next c.as_slice-step-items.result.now c.steps.step-index c.step-item.result (omega arith) c.step-item.is _ _ _ c.in_ok-note_step.ensures.spread c.steps.invariant.spread;
}

pub note_steps-note_step-requires : goal.note_steps-note_step-requires
note_steps-note_step-requires t c =
    let less : depth (step_of c.step-item.result) ≤ depth c.args.steps.now =
    step_within c.as_slice-step-items.result.now c.steps.step-index c.step-item.result c.args.steps.now (omega arith) c.step-item.is c.as_slice-step-items.ensures in
    (omega arith, tt)
