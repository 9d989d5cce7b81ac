use Rattle.std.proofs.Common.{◌≡◌, map, take}
use Rattle.schema_tables.proofs.index.Index.sort.Given as goal
use Rattle.schema_tables.specs.declared.index.NamePlace.{NamePlace}

abbrev pub invariant-pairs : goal.invariant-pairs
invariant-pairs l = l.places.items ≡ map (λ (p : NamePlace). p.at) (take l.pair-index l.pair-items)
