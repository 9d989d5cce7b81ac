-- One more text, and all of them in order.
use Rattle.std.proofs.Common.{◌≡◌, ◌&&◌, ap, ◌∙◌, arith}
use Rattle.std.proofs.lemmas.Result.{IfOk-weaker}
use Rattle.plan_ir.specs.gql_plain.Order.{AreSortedOf, has_text}
use Rattle.store_retain.proofs.CommonSteps.{common_end, common_next}
use Rattle.store_sweeps.proofs.Written.{sorted_has}
use Rattle.store_retain.proofs.table.common.Goals as goal

pub texts-preserved : goal.texts-preserved
texts-preserved c = λ T.
    common_next c.as_slice-text-items.result.now c.args.other.now c.texts.text-index _ c.text-item.result T _ _ _ (omega arith) c.text-item.is (c.in_ok-put_common.ensures T) (c.texts.invariant T)

pub returns : goal.returns
returns c = λ T.
    IfOk-weaker c.sort.result (AreSortedOf c.texts.texts.items) (λ texts. has_text texts T ≡ (has_text c.args.one.now T && has_text c.args.other.now T))
    (λ texts sorted. sorted_has c.texts.texts.items texts T sorted
    ∙ common_end c.as_slice-text-items.result.now c.args.other.now c.texts.text-index T _ _ (omega arith) (c.texts.invariant T)
    ∙ ap (λ xs. has_text xs T && has_text c.args.other.now T) c.as_slice-text-items.ensures) c.sort.ensures
