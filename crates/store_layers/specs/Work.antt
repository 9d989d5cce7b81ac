-- The work of a call of the layers.
use Rattle.std.specs.Prelude.{ℕ, zero, suc, ◌+◌, List, [], ◌∷◌}
use Rattle.store_update.specs.gql_plain.Counted.{next_count}
use Rattle.store_update.specs.store_model.Entries.{apply, weight}
use Rattle.store_update.specs.store_model.Records.{Records}
use Rattle.store_update.specs.store_model.declared.entry.Entry.{Entry}

-- a count that rises so many times by one
abbrev pub counted : ℕ → ℕ → ℕ
counted zero c = c
counted (suc n) c = next_count (counted n c)

-- the weights of entries, each on the records where it acts
abbrev pub weights : List Entry → Records → ℕ
weights [] m = 0
weights (e ∷ es) m = weight e m + weights es (apply e m)
