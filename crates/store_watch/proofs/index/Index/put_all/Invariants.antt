use Rattle.std.proofs.Common.{◌≡◌, ℕ, List, drop}
use Rattle.store_watch.specs.Lists.{under}
use Rattle.store_watch.specs.Numbers.{Grows, StandsUnder}
use Rattle.store_watch.proofs.index.Index.put_all.Given as goal

abbrev pub invariant-ids : goal.invariant-ids
invariant-ids l = Grows (under l.initial.self.lists) (under l.self.lists) × ((t : List ℕ → List ℕ) → Grows (under l.self.lists) t → StandsUnder t l.number (drop l.id-index l.ids) → StandsUnder t l.number l.ids)
