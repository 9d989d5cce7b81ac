use Rattle.std.proofs.Common.{◌≡◌, ℕ, List, map, take}
use Rattle.schema_tables.proofs.index.Index.new.Given as goal
use Rattle.schema_tables.specs.Indexes.{is_named, pair_of, place_among}
use Rattle.schema_tables.specs.Places.{first_at}

abbrev pub invariant-items : goal.invariant-items
invariant-items g l = (n : List ℕ) → place_among (map pair_of l.pairs.items) n ≡ first_at (is_named g.T.Named.name n) (take l.at l.items)
