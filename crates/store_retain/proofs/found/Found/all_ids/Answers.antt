-- One more id, and all of them in order.
use Rattle.std.proofs.Common.{◌≡◌, ap, ◌∙◌}
use Rattle.std.proofs.lemmas.Result.{IfOk-weaker}
use Rattle.plan_ir.specs.gql_plain.Order.{AreSortedOf, has_text}
use Rattle.store_retain.proofs.CommonSteps.{texts_end, texts_next}
use Rattle.store_sweeps.proofs.Written.{sorted_has}
use Rattle.store_retain.proofs.found.Found.all_ids.Goals as goal
use Rattle.store_retain.specs.Steps.{Found}

pub ids-preserved : goal.ids-preserved
ids-preserved c = texts_next c.ids.words.items c.push.new.self.items c.in_ok-new.field-0 _ c.ids.id-iterator c.next.new.self _ c.in_ok-push.ensures.items c.in_ok-new.ensures c.in-Some.ensures.steps c.ids.invariant

pub returns : goal.returns
returns c = λ j.
    IfOk-weaker c.sort.result (AreSortedOf c.ids.words.items) (λ ids. has_text ids j ≡ has_text c.args.self.now.ids j)
    (λ ids sorted. sorted_has c.ids.words.items ids j sorted
    ∙ ap (λ ws. has_text ws j) (texts_end c.ids.words.items c.ids.id-iterator _ c.self.inside.ids.keys c.in-None.ensures.steps.0 c.ids.invariant c.into_iter-id-iterator.ensures.into_iter_gives.0)
    ∙ ap (λ (f : Found). has_text f.ids j) c.self.view_is) c.sort.ensures
