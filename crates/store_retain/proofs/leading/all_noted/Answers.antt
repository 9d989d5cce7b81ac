use Rattle.std.proofs.Common.{◌≡◌, ◌++◌, append-nil, sym, ap, ◌∙◌}
use Rattle.std.proofs.lemmas.Result.{IfOk-weaker}
use Rattle.plan_ir.specs.gql_plain.Order.{AreSortedOf, has_text}
use Rattle.store_sweeps.proofs.Written.{sorted_has}
use Rattle.store_retain.proofs.leading.all_noted.Goals as goal

pub returns : goal.returns
returns c = λ j.
    IfOk-weaker c.sort.result (AreSortedOf c.ids.words.items) (λ ids. has_text ids j ≡ has_text c.args.leading.now.noted.keys j)
    (λ ids sorted. sorted_has c.ids.words.items ids j sorted ∙ ap (λ ws. has_text ws j) (sym (append-nil c.ids.words.items) ∙ ap (λ left. c.ids.words.items ++ left) (sym c.in-None.ensures.steps.0) ∙ c.ids.invariant ∙ c.into_iter-id-iterator.ensures.into_iter_gives.0)) c.sort.ensures
