-- One more operation, and the last one.
use Rattle.std.proofs.Common.{◌∙◌}
use Rattle.store_retain.proofs.MarkSteps.{kept_end, kept_next}
use Rattle.store_retain.proofs.mark.mark_released.Goals as goal
use Rattle.store_retain.specs.Steps.{slots_of}

pub released-preserved : goal.released-preserved
released-preserved g c = record {
  ids = λ j. kept_next (slots_of (g.S.RecordSource.records c.args.source.now)) j _ c.next.new.self c.released.held-iterator _ _ _ c.in-Some.ensures.steps (c.in_ok-mark_held.ensures.ids j) (c.released.invariant.ids j);
  applies = c.in_ok-mark_held.ensures.applies ∙ c.released.invariant.applies;
}

pub returns-clause-ids : goal.returns-clause-ids
returns-clause-ids g c = λ j.
    kept_end (slots_of (g.S.RecordSource.records c.args.source.now)) j c.released.held-iterator _ _ _ _ c.in-None.ensures.steps.0 (c.released.invariant.ids j) c.into_iter-held-iterator.ensures.into_iter_gives.0
