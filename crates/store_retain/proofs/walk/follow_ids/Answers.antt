-- One more id, and the last one.
use Rattle.std.proofs.Common.{refl, ◌∙◌, subst, arith}
use Rattle.plan_ir.specs.store_model.Entries.{some_id, some_ids}
use Rattle.store_retain.proofs.Follow.{left_end, left_next, to_next}
use Rattle.store_retain.proofs.walk.follow_ids.Goals as goal
use Rattle.store_retain.specs.Steps.{Follows, slots_of, steps_to}

pub ids-preserved : goal.ids-preserved
ids-preserved g c = record {
  follows = left_next (slots_of (g.S.RecordSource.records c.args.store.now.source.now)) c.args.store.now.root.now (λ o. steps_to c.args.types.now c.args.numbers.now (some_id o)) (λ os. steps_to c.args.types.now c.args.numbers.now (some_ids os)) (to_next c.args.types.now c.args.numbers.now)
      c.as_slice-id-items.result.now c.ids.id-index _ c.id-item.result _ c.ids.found c.follow_id.new.found (omega arith) c.id-item.is c.ids.invariant.follows c.in_ok-follow_id.ensures.follows;
  applies = c.in_ok-follow_id.ensures.applies ∙ c.ids.invariant.applies;
}

pub returns-clause-follows : goal.returns-clause-follows
returns-clause-follows g c =
    subst (λ os. Follows (slots_of (g.S.RecordSource.records c.args.store.now.source.now)) c.args.store.now.root.now c.args.found.now c.ids.found (steps_to c.args.types.now c.args.numbers.now (some_ids os))) c.as_slice-id-items.ensures
    (left_end (slots_of (g.S.RecordSource.records c.args.store.now.source.now)) c.args.store.now.root.now (λ o. steps_to c.args.types.now c.args.numbers.now (some_id o)) (λ os. steps_to c.args.types.now c.args.numbers.now (some_ids os)) (to_next c.args.types.now c.args.numbers.now) refl
    c.as_slice-id-items.result.now c.ids.id-index _ c.ids.found (omega arith) c.ids.invariant.follows)
