use Rattle.std.proofs.Common.{◌≡◌, ◌++◌, map}
use Rattle.gql_order.proofs.heads.items_of.Given as goal

abbrev pub invariant-ranked : goal.invariant-ranked
invariant-ranked g l = l.items.items ++ map (λ r. r.item) l.next-iterator.rest.items ≡ map (λ r. r.item) l.fn.ranked.items
