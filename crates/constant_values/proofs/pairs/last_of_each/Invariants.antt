use Rattle.std.proofs.Common.{◌≡◌, vec_len}
use Rattle.std.specs.Map.{keys_of}
use Rattle.schema_types.specs.gql_plain.Order.{AreInOrder}
use Rattle.schema_types.specs.gql_plain.Shown.{shown_members}
use Rattle.schema_types.specs.Environments.{with_new_pair}
use Rattle.constant_values.proofs.Placing.{put_all}
use Rattle.constant_values.proofs.pairs.last_of_each.Given as goal
use Rattle.constant_values.specs.Listed.{last_of_each}

abbrev pub invariant-pairs : goal.invariant-pairs
invariant-pairs l = record {
  put : put_all with_new_pair (shown_members l.pairs.items) (shown_members l.sorted.entries) ≡ last_of_each (shown_members l.fn.pairs.items);
  ordered : AreInOrder (keys_of l.sorted.entries);
}

abbrev pub decreases-pairs : goal.decreases-pairs
decreases-pairs l = vec_len l.pairs
