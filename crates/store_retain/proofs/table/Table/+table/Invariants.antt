-- What is put, and what is left; a step is at most as deep as its plan.
use Rattle.std.proofs.Common.{◌≡◌, ◌+◌, ◌*◌, [], ◌∷◌, None, get_or, map, drop}
use Rattle.plan_ir.specs.Normal.{depth}
use Rattle.plan_ir.specs.NormalLeads.{AreAgain, leads_of}
use Rattle.plan_ir.specs.NormalView.{step_of, steps_of}
use Rattle.store_retain.proofs.TableSteps.{Leaves}
use Rattle.store_retain.proofs.table.Table.+table.Given as goal
use Rattle.store_retain.specs.RoadView.{table_of}
use Rattle.store_retain.specs.Stands.{Begins, IsLead}
use Rattle.store_retain.specs.TrailView.{way_of}

abbrev pub decreases-put_plan : goal.decreases-put_plan
decreases-put_plan l = 4 * depth l.steps.now + 2

abbrev pub decreases-put_steps : goal.decreases-put_steps
decreases-put_steps l = 4 * depth l.steps.now + 1

abbrev pub decreases-put_step : goal.decreases-put_step
decreases-put_step l = 4 * depth (step_of l.step.now)

abbrev pub decreases-put_guarded : goal.decreases-put_guarded
decreases-put_guarded l = 4 * depth l.child.now + 3

abbrev pub decreases-put_let : goal.decreases-put_let
decreases-put_let l = 4 * depth l.steps.now + 2

abbrev pub decreases-put_below : goal.decreases-put_below
decreases-put_below l = 4 * depth l.steps.now + 3

abbrev pub invariant-put_steps-steps : goal.invariant-put_steps-steps
invariant-put_steps-steps l = record {
  within : steps_of l.items ≡ l.steps;
  nothing : Begins ([] ∷ []) (table_of l.self.parts.items);
  grows : Begins (table_of l.initial.self.parts.items) (table_of l.self.parts.items);
  left : Leaves (table_of l.self.parts.items) l.on l.env.values (map way_of l.initial.trails.items) (map way_of l.trails.items) (steps_of (drop l.at l.items)) l.steps;
  marks : AreAgain None l.again (leads_of l.steps);
  last : IsLead (table_of l.self.parts.items) l.env.values l.last (get_or (None ∷ leads_of l.steps) l.at None);
}
