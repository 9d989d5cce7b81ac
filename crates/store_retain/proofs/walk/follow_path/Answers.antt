-- One more trail, and the last one.
use Rattle.std.proofs.Common.{List, map, Some, refl, ◌∙◌, subst, arith}
use Rattle.plan_ir.specs.store_model.Walks.{field_of}
use Rattle.plan_ir.specs.store_record.declared.record.Slot.TheVariants.{Alive}
use Rattle.store_retain.proofs.Follow.{left_end, left_next}
use Rattle.store_retain.proofs.walk.follow_path.Goals as goal
use Rattle.store_retain.specs.Steps.{Follows, slots_of, way_steps, ways_steps}
use Rattle.store_retain.specs.TrailView.{way_at}
use Rattle.store_retain.specs.declared.trail.TrailAt.{TrailAt}

pub trails-preserved : goal.trails-preserved
trails-preserved g c = record {
  follows = left_next (slots_of (g.S.RecordSource.records c.args.store.now.source.now)) c.args.store.now.root.now (λ t. way_steps (field_of (Some (Alive c.args.row.now))) c.args.path.now.numbers.items (way_at t)) (λ (ts : List TrailAt). ways_steps (field_of (Some (Alive c.args.row.now))) c.args.path.now.numbers.items (map way_at ts)) (λ t ts. refl)
      c.deref-at-items.result.now c.trails.at-index _ c.at-item.result _ c.trails.found c.follow_trail.new.found (omega arith) c.at-item.is c.trails.invariant.follows
      (subst (λ ks. Follows (slots_of (g.S.RecordSource.records c.args.store.now.source.now)) c.args.store.now.root.now c.trails.found c.follow_trail.new.found (way_steps (field_of (Some (Alive c.args.row.now))) ks (way_at c.at-item.result))) c.deref.ensures.value c.in_ok-follow_trail.ensures.follows);
  applies = c.in_ok-follow_trail.ensures.applies ∙ c.trails.invariant.applies;
}

pub returns-clause-follows : goal.returns-clause-follows
returns-clause-follows g c =
    subst (λ ts. Follows (slots_of (g.S.RecordSource.records c.args.store.now.source.now)) c.args.store.now.root.now c.args.found.now c.trails.found (ways_steps (field_of (Some (Alive c.args.row.now))) c.args.path.now.numbers.items (map way_at ts))) c.deref-at-items.ensures.value
    (left_end (slots_of (g.S.RecordSource.records c.args.store.now.source.now)) c.args.store.now.root.now (λ t. way_steps (field_of (Some (Alive c.args.row.now))) c.args.path.now.numbers.items (way_at t)) (λ (ts : List TrailAt). ways_steps (field_of (Some (Alive c.args.row.now))) c.args.path.now.numbers.items (map way_at ts)) (λ t ts. refl) refl
    c.deref-at-items.result.now c.trails.at-index _ c.trails.found (omega arith) c.trails.invariant.follows)
