-- What the steps so far say stands behind what was noted. A step is no deeper than those among which it stands.
use Rattle.std.proofs.Common.{◌≡◌, ◌+◌, ◌*◌, ◌++◌, map, take}
use Rattle.plan_ir.specs.Reader.{depth}
use Rattle.plan_ir.specs.ReaderView.{step_of, steps_of}
use Rattle.plan_order.proofs.keys.+note.Given as goal
use Rattle.plan_order.specs.Responses.{fragments, responses}

abbrev pub decreases-note_steps : goal.decreases-note_steps
decreases-note_steps l = 2 * depth l.steps.now + 1

abbrev pub decreases-note_step : goal.decreases-note_step
decreases-note_step l = 2 * depth (step_of l.step.now)

abbrev pub invariant-note_steps-steps : goal.invariant-note_steps-steps
invariant-note_steps-steps l = record {
  told : map (λ t. t.now) l.keys.responses.items ≡ map (λ t. t.now) l.initial.keys.responses.items ++ responses (steps_of (take l.step-index l.step-items));
  spread : map (λ t. t.now) l.keys.fragments.items ≡ map (λ t. t.now) l.initial.keys.fragments.items ++ fragments (steps_of (take l.step-index l.step-items));
}
