-- What is counted and what is left are the whole.
use Rattle.std.proofs.Common.{◌≡◌, ◌+◌, ◌≤◌, drop}
use Rattle.std.specs.Map.{keys_of}
use Rattle.schema_types.specs.schema_tables.Required.{count_among, required_names}
use Rattle.schema_values.proofs.suited.count_required.Given as goal

abbrev pub invariant-pairs : goal.invariant-pairs
invariant-pairs l =
    ((l.count + count_among (required_names l.inputs) (keys_of (drop l.key-index l.pairs))) ≡ count_among (required_names l.inputs) (keys_of l.pairs))
    × (l.count ≤ l.key-index)
