-- The texts are put in order twice, or are in order by their heads.
use Rattle.std.proofs.Common.{◌≡◌, rules, map-id, sym, subst}
use Rattle.std.proofs.lemmas.Result.{IfOk-weaker}
use Rattle.gql_plain.specs.Order.{AreInOrder, AreSortedOf}
use Rattle.gql_order.proofs.Moved.{in_order_of_moved, sorted_of_moved}
use Rattle.gql_order.proofs.ids.sorted_ids.Goals as goal

pub in_order-requires : goal.in_order-requires
in_order-requires c =
    let moved = c.in_ok-moved.moved.items.items in
    subst AreInOrder (map-id moved) (c.in_ok-moved.ensures.rising (search rules) (λ word. word) (λ x text called. search rules))

pub returns-then-moved : goal.returns-then-moved
returns-then-moved c =
    let moved = c.in_ok-moved.moved.items.items in
    let order : AreInOrder moved = subst AreInOrder (map-id moved) (c.in_ok-moved.ensures.rising (search rules) (λ word. word) (λ x text called. search rules)) in
    IfOk-weaker c.in_order.result (λ ids. ids ≡ moved) (AreSortedOf c.args.words.items)
    (λ ids is. subst (AreSortedOf c.args.words.items) (sym is) (in_order_of_moved c.args.words.items moved c.in_ok-moved.ensures.moved order)) c.in_order.ensures

pub returns : goal.returns
returns c =
    let moved = c.in_ok-moved.moved.items.items in
    IfOk-weaker c.sort.result (AreSortedOf moved) (AreSortedOf c.args.words.items)
    (λ ids are. sorted_of_moved c.args.words.items moved ids c.in_ok-moved.ensures.moved are) c.sort.ensures
