use Rattle.std.proofs.Common.{◌≡◌, subst, sym}
use Rattle.std.proofs.lemmas.Result.{IfOk-weaker}
use Rattle.gql_plain.proofs.InOrder.{AreSortedOf-dedup}
use Rattle.gql_plain.proofs.ids.Ids.sort.Goals as goal
use Rattle.gql_plain.specs.Order.{AreSortedOf}

pub in_order-requires : goal.in_order-requires
in_order-requires c = (AreSortedOf-dedup _ _ _ c.sort.ensures.permutation c.in_ok-sort.ensures.sorted c.dedup.ensures.filtered).0

pub returns : goal.returns
returns c =
    let kept = AreSortedOf-dedup _ _ _ c.sort.ensures.permutation c.in_ok-sort.ensures.sorted c.dedup.ensures.filtered in
    IfOk-weaker c.in_order.result (λ ids. ids ≡ c.dedup.new.self.items) (AreSortedOf c.args.words.items) (λ ids is. subst (AreSortedOf c.args.words.items) (sym is) kept) c.in_order.ensures
