-- What is put and what is left are the whole; a step is at most as deep as its plan.
use Rattle.std.proofs.Common.{◌≡◌, ◌+◌, ◌*◌, drop}
use Rattle.plan_ir.specs.Normal.{depth}
use Rattle.plan_ir.specs.NormalMeaning.{collect_steps}
use Rattle.plan_ir.specs.NormalView.{step_of, steps_of}
use Rattle.plan_groups.specs.Placed.{groups_in, IsPlaced}
use Rattle.plan_ir.specs.store_model.Items.{asked_of, grouped_onto}
use Rattle.plan_groups.proofs.gathered.Gathered.+gather.Given as goal

abbrev pub decreases-put_steps : goal.decreases-put_steps
decreases-put_steps l = 2 * depth l.steps.now + 1

abbrev pub decreases-put_step : goal.decreases-put_step
decreases-put_step l = 2 * depth (step_of l.step.now)

abbrev pub invariant-put_steps-steps : goal.invariant-put_steps-steps
invariant-put_steps-steps l = record {
  within : steps_of l.items ≡ l.steps;
  put : grouped_onto (groups_in l.self) (asked_of (collect_steps l.env.values l.object (steps_of (drop l.at l.items))))
      ≡ grouped_onto (groups_in l.initial.self) (asked_of (collect_steps l.env.values l.object l.steps));
  placed : IsPlaced l.self;
}
