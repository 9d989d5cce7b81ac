-- What live handles hold, and then what was released.
use Rattle.std.proofs.Common.{◌≡◌, ◌∙◌}
use Rattle.std.proofs.lemmas.Result.{IfOk-weaker}
use Rattle.plan_ir.specs.gql_plain.Order.{has_text}
use Rattle.store_retain.proofs.MarkSteps.{kept_all}
use Rattle.store_retain.proofs.retained.Retained.mark.Goals as goal
use Rattle.store_retain.specs.Kept.{all_held, is_kept}
use Rattle.store_retain.specs.Steps.{slots_of}

pub returns-clause-ids : goal.returns-clause-ids
returns-clause-ids g c = λ j.
    IfOk-weaker c.all_ids.result (λ ids. has_text ids j ≡ has_text c.mark_released.new.found.ids j) (λ ids. has_text ids j ≡ is_kept (slots_of (g.S.RecordSource.records c.args.source.now)) (all_held c.args.self.now) j)
    (λ ids e. e
    ∙ kept_all (slots_of (g.S.RecordSource.records c.args.source.now)) j c.self.inside.live.entries c.self.inside.released c.args.self.now c.new-found.result c.mark_live.new.found c.mark_released.new.found
    c.new-found.ensures c.self.view_is (c.in_ok-mark_live.ensures.ids j) (c.in_ok-mark_released.ensures.ids j))
    (c.all_ids.ensures j)
