use Rattle.std.proofs.Common.{◌≡◌, ◌<◌, ◌≤◌, length, get_or, ap, ◌∙◌, subst, arith}
use Rattle.std.specs.FinMap.{remove}
use Rattle.store_layers.proofs.Swept.{step_gone, end_gone}
use Rattle.store_layers.proofs.sweep.without_ids.Goals as goal

pub ids-preserved : goal.ids-preserved
ids-preserved g c =
    let records = g.S.RecordSource.records in
    let ids = c.args.ids.now in
    let i = c.ids.id-index in
    let id = c.id-item.result in
    let all = c.as_slice-id-items.ensures in
    let within : i < length ids = subst (λ xs. i < length xs) all c.ids-test.true in
    let is : id ≡ get_or ids i id = subst (λ xs. id ≡ get_or xs i id) all c.id-item.is in
    let made : records c.in_ok-left-2.left ≡ remove (records c.ids.left) id = c.in_ok-left-2.ensures.records ∙ ap (remove (records c.ids.left)) c.as_str.ensures in
    record {
      records = step_gone ids i id (records c.ids.left) (records c.in_ok-left-2.left) within is made ∙ c.ids.invariant.records;
      applies = c.remove.ensures.applies ∙ c.ids.invariant.applies;
      looks = c.remove.ensures.looks ∙ c.ids.invariant.looks;
    }

pub returns-clause-records : goal.returns-clause-records
returns-clause-records g c =
    let ids = c.args.ids.now in
    let i = c.ids.id-index in
    let past : length ids ≤ i = subst (λ xs. length xs ≤ i) c.as_slice-id-items.ensures (omega (arith, c.ids-test.false)) in
    end_gone ids i (g.S.RecordSource.records c.ids.left) past ∙ c.ids.invariant.records
