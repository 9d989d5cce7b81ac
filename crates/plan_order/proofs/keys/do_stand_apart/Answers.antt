-- There is no pointer, or each response key is looked at.
use denote.Ref.{Bor}
use Rattle.std.proofs.Common.{◌≡◌, length, ap, ◌∙◌, arith}
use Rattle.std.specs.List.{list_all}
use Rattle.plan_order.proofs.FoundOrders.{apart_each, apart_free}
use Rattle.plan_order.proofs.keys.do_stand_apart.Goals as goal
use Rattle.plan_order.specs.HasOrder.{stands_apart}
use Rattle.plan_ir.specs.store_record.Keys.{Text}

pub returns-then-is_empty : goal.returns-then-is_empty
returns-then-is_empty c =
    let free : length c.args.keys.now.fragments.items ≡ 0 = grind (arith, c.is_empty.ensures) in
    apart_free c.args.keys.now.fragments.items c.args.keys.now.responses.items free

pub returns : goal.returns
returns c =
    let some : length c.args.keys.now.fragments.items ≡ 0 → ⊥ = λ e. grind (arith, e, c.is_empty.ensures) in
    apart_each c.args.keys.now.fragments.items c.args.keys.now.responses.items c.are_apart.result some
    (c.are_apart.ensures ∙ ap (list_all (λ (t : Bor Text). stands_apart t.now)) c.deref.ensures.value)
