-- What was made for the spreads so far.
use Rattle.std.proofs.Common.{◌≡◌, map, take}
use Rattle.store_read.proofs.caching.pointers_made.Given as goal
use Rattle.store_read.specs.CacheView.{pointer_view}
use Rattle.store_read.specs.Caching.{read_pointer}
use Rattle.store_read.specs.FieldView.{spread_at}

abbrev pub invariant-spreads : goal.invariant-spreads
invariant-spreads l = map pointer_view l.made.items ≡ map (read_pointer l.levels) (map spread_at (take l.spread-index l.spreads))
