use Rattle.std.proofs.Common.{◌≡◌, ◌++◌, ℕ, List, map}
use Rattle.gql_order.proofs.heads.ranked_of.Given as goal
use Rattle.gql_order.specs.Heads.{ReadsText}
use Rattle.gql_order.specs.Ranks.{AllRanked}

abbrev pub invariant-items : goal.invariant-items
invariant-items g l =
    (map (λ r. r.item) l.ranked.items ++ l.item-iterator.rest.items ≡ l.fn.items.items)
    × ((key : g.row.T.Denot → List ℕ) → ReadsText g.F.Fn key l.fn.text → AllRanked key l.fn.start l.ranked.items)
