-- The walk goes down the steps of its plan; what is written and what is left are the whole.
use Rattle.std.proofs.Common.{◌≡◌, ◌+◌, ◌*◌, ◌≤◌, ◌++◌, ◌∷◌, [], drop, length}
use Rattle.plan_ir.specs.Reader.{depth}
use Rattle.plan_ir.specs.ReaderView.{step_of, steps_of}
use Rattle.plan_ir.specs.store_model.Walks.{elements_at}
use Rattle.store_show.proofs.showing.+show.Given as goal
use Rattle.store_read.specs.FieldView.{part_at}
use Rattle.store_show.specs.Showing.{below, elements_tokens, members_at, members_met_at, pairs_tokens, pointers_at, pointers_met_at}
use Rattle.store_show.specs.Stood.{stood_onto}
use Rattle.store_show.specs.Spans.{span_of}

abbrev pub decreases-show_record : goal.decreases-show_record
decreases-show_record g l = 30 * depth (part_at l.part).steps + 17

abbrev pub decreases-show_live : goal.decreases-show_live
decreases-show_live g l = 30 * depth (part_at l.part).steps + 16

abbrev pub decreases-show_object : goal.decreases-show_object
decreases-show_object g l = 30 * depth l.plan.now + 15

abbrev pub decreases-show_members : goal.decreases-show_members
decreases-show_members g l = 30 * depth l.plan.now + 14

abbrev pub decreases-show_around : goal.decreases-show_around
decreases-show_around g l = 30 * depth l.plan.now + 13

abbrev pub decreases-show_marks : goal.decreases-show_marks
decreases-show_marks g l = 30 * depth l.plan.now + 12

abbrev pub decreases-show_pointers : goal.decreases-show_pointers
decreases-show_pointers g l = 30 * depth l.plan.now + 11

abbrev pub decreases-show_pointers_of_step : goal.decreases-show_pointers_of_step
decreases-show_pointers_of_step g l = 30 * depth (step_of l.step.now) + 8

abbrev pub decreases-show_fields : goal.decreases-show_fields
decreases-show_fields g l = 30 * depth l.plan.now + 7

abbrev pub decreases-show_step : goal.decreases-show_step
decreases-show_step g l = 30 * depth (step_of l.step.now) + 6

abbrev pub decreases-show_guarded : goal.decreases-show_guarded
decreases-show_guarded g l = 30 * depth l.child.now.steps + 8

abbrev pub decreases-show_field : goal.decreases-show_field
decreases-show_field g l = 30 * depth (part_at l.field.part).steps + 22

abbrev pub decreases-show_value : goal.decreases-show_value
decreases-show_value g l = 30 * depth (part_at l.part).steps + 21

abbrev pub decreases-show_one : goal.decreases-show_one
decreases-show_one g l = 30 * depth (part_at l.part).steps + 20

abbrev pub decreases-show_many : goal.decreases-show_many
decreases-show_many g l = 30 * depth (part_at l.part).steps + 20

abbrev pub decreases-show_elements : goal.decreases-show_elements
decreases-show_elements g l = 30 * depth (part_at l.part).steps + 19

abbrev pub decreases-show_element : goal.decreases-show_element
decreases-show_element g l = 30 * depth (part_at l.part).steps + 18

abbrev pub decreases-show_pointer : goal.decreases-show_pointer
decreases-show_pointer g l = 30 * depth (part_at l.spread.body).steps + 18

abbrev pub invariant-show_fields-steps : goal.invariant-show_fields-steps
invariant-show_fields-steps g l = record {
  within : steps_of l.items ≡ l.plan;
  shown : l.out.tokens ++ pairs_tokens (members_at (g.S.RecordSource.records l.store.source.now) l.store.root.now l.store.owner.now l.at (span_of l.span) (steps_of (drop l.place l.items)))
      ≡ l.initial.out.tokens ++ pairs_tokens (members_at (g.S.RecordSource.records l.store.source.now) l.store.root.now l.store.owner.now l.at (span_of l.span) l.plan);
  before : l.out.before ≡ l.initial.out.before;
  met : stood_onto l.met (members_met_at (g.S.RecordSource.records l.store.source.now) l.store.root.now l.store.owner.now l.at (span_of l.span) (steps_of (drop l.place l.items)))
      ≡ stood_onto l.initial.met (members_met_at (g.S.RecordSource.records l.store.source.now) l.store.root.now l.store.owner.now l.at (span_of l.span) l.plan);
  looks : g.S.Count.Steps.looks l.steps + length (members_met_at (g.S.RecordSource.records l.store.source.now) l.store.root.now l.store.owner.now l.at (span_of l.span) (steps_of (drop l.place l.items))).seen
      ≤ g.S.Count.Steps.looks l.initial.steps + length (members_met_at (g.S.RecordSource.records l.store.source.now) l.store.root.now l.store.owner.now l.at (span_of l.span) l.plan).seen;
  applies : g.S.Count.Steps.applies l.steps ≡ g.S.Count.Steps.applies l.initial.steps;
}

abbrev pub invariant-show_pointers-steps : goal.invariant-show_pointers-steps
invariant-show_pointers-steps g l = record {
  within : steps_of l.step-items ≡ l.plan;
  shown : l.out.tokens ++ pairs_tokens (pointers_at (g.S.RecordSource.records l.store.source.now) l.store.root.now l.store.owner.now l.at (steps_of (drop l.step-index l.step-items)))
      ≡ l.initial.out.tokens ++ pairs_tokens (pointers_at (g.S.RecordSource.records l.store.source.now) l.store.root.now l.store.owner.now l.at l.plan);
  before : l.out.before ≡ l.initial.out.before;
  met : stood_onto l.met (pointers_met_at (g.S.RecordSource.records l.store.source.now) l.store.root.now l.store.owner.now l.at (steps_of (drop l.step-index l.step-items)))
      ≡ stood_onto l.initial.met (pointers_met_at (g.S.RecordSource.records l.store.source.now) l.store.root.now l.store.owner.now l.at l.plan);
  looks : g.S.Count.Steps.looks l.steps + length (pointers_met_at (g.S.RecordSource.records l.store.source.now) l.store.root.now l.store.owner.now l.at (steps_of (drop l.step-index l.step-items))).seen
      ≤ g.S.Count.Steps.looks l.initial.steps + length (pointers_met_at (g.S.RecordSource.records l.store.source.now) l.store.root.now l.store.owner.now l.at l.plan).seen;
  applies : g.S.Count.Steps.applies l.steps ≡ g.S.Count.Steps.applies l.initial.steps;
}

abbrev pub invariant-show_elements-ids : goal.invariant-show_elements-ids
invariant-show_elements-ids g l = record {
  shown : l.out.tokens ++ elements_tokens (elements_at (below (g.S.RecordSource.records l.store.source.now) l.store.root.now l.store.owner.now l.levels) l.types (part_at l.part ∷ []) (drop l.id-index l.ids)).0
      ≡ l.initial.out.tokens ++ elements_tokens (elements_at (below (g.S.RecordSource.records l.store.source.now) l.store.root.now l.store.owner.now l.levels) l.types (part_at l.part ∷ []) l.ids).0;
  before : l.out.before ≡ l.initial.out.before;
  met : stood_onto l.met (elements_at (below (g.S.RecordSource.records l.store.source.now) l.store.root.now l.store.owner.now l.levels) l.types (part_at l.part ∷ []) (drop l.id-index l.ids)).1
      ≡ stood_onto l.initial.met (elements_at (below (g.S.RecordSource.records l.store.source.now) l.store.root.now l.store.owner.now l.levels) l.types (part_at l.part ∷ []) l.ids).1;
  looks : g.S.Count.Steps.looks l.steps + length (elements_at (below (g.S.RecordSource.records l.store.source.now) l.store.root.now l.store.owner.now l.levels) l.types (part_at l.part ∷ []) (drop l.id-index l.ids)).1.seen
      ≤ g.S.Count.Steps.looks l.initial.steps + length (elements_at (below (g.S.RecordSource.records l.store.source.now) l.store.root.now l.store.owner.now l.levels) l.types (part_at l.part ∷ []) l.ids).1.seen;
  applies : g.S.Count.Steps.applies l.steps ≡ g.S.Count.Steps.applies l.initial.steps;
}
