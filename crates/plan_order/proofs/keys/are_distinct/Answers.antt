-- Texts in order rise just where none stands twice.
use Rattle.std.proofs.Common.{◌≡◌, ◌↔◌, true, map, subst}
use Rattle.plan_ir.specs.gql_plain.Order.{AreInOrder}
use Rattle.plan_order.proofs.FoundOrders.{rise_distinct}
use Rattle.plan_order.proofs.keys.are_distinct.Goals as goal

pub returns : goal.returns
returns c =
    rise_distinct c.args.texts.items c.in_ok-sorted.sorted.items c.do_rise.result c.in_ok-sorted.ensures.same c.in_ok-sorted.ensures.order
    (subst (λ xs. (c.do_rise.result ≡ true) ↔ AreInOrder (map (λ t. t.now) xs)) c.deref.ensures.value c.do_rise.ensures)
