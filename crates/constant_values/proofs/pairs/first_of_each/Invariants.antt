use Rattle.std.proofs.Common.{◌≡◌, vec_len}
use Rattle.schema_types.specs.gql_plain.Shown.{shown_members}
use Rattle.schema_types.specs.Environments.{with_pair}
use Rattle.constant_values.proofs.Placing.{put_all}
use Rattle.constant_values.proofs.pairs.first_of_each.Given as goal
use Rattle.constant_values.specs.Listed.{first_of_each}

abbrev pub invariant-pairs : goal.invariant-pairs
invariant-pairs l = put_all with_pair (shown_members l.pairs.items) (shown_members l.sorted.entries) ≡ first_of_each (shown_members l.fn.pairs.items)

abbrev pub decreases-pairs : goal.decreases-pairs
decreases-pairs l = vec_len l.pairs
