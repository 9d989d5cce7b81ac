-- One more path, and the last one.
use Rattle.std.proofs.Common.{Some, refl, ◌∙◌, arith}
use Rattle.plan_ir.specs.store_model.Walks.{field_of}
use Rattle.plan_ir.specs.store_record.declared.record.Slot.TheVariants.{Alive}
use Rattle.store_retain.proofs.Follow.{left_end, left_next}
use Rattle.store_retain.proofs.walk.follow_paths.Goals as goal
use Rattle.store_retain.specs.PathView.{path_steps, paths_steps}
use Rattle.store_retain.specs.Steps.{slots_of}

pub paths-preserved : goal.paths-preserved
paths-preserved g c = record {
  follows = left_next (slots_of (g.S.RecordSource.records c.args.store.now.source.now)) c.args.store.now.root.now (path_steps (field_of (Some (Alive c.args.row.now)))) (paths_steps (field_of (Some (Alive c.args.row.now)))) (λ p ps. refl)
      c.args.paths.now c.paths.path-index _ c.path-item.result _ c.paths.found c.follow_path.new.found (omega arith) c.path-item.is c.paths.invariant.follows c.in_ok-follow_path.ensures.follows;
  applies = c.in_ok-follow_path.ensures.applies ∙ c.paths.invariant.applies;
}

pub returns-clause-follows : goal.returns-clause-follows
returns-clause-follows g c =
    left_end (slots_of (g.S.RecordSource.records c.args.store.now.source.now)) c.args.store.now.root.now (path_steps (field_of (Some (Alive c.args.row.now)))) (paths_steps (field_of (Some (Alive c.args.row.now)))) (λ p ps. refl) refl
    c.args.paths.now c.paths.path-index _ c.paths.found (omega arith) c.paths.invariant.follows
